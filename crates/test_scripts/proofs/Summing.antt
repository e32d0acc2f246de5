-- Laws of sums and of replaced entries.
-- Assumes nothing.
use mathlib.Core.Path.{◌≡◌, refl, sym, ap, ◌∙◌, subst}
use mathlib.Core.List.{List, [], ◌∷◌, ◌++◌}
use Prim.Native.Nat.{ℕ, ◌+◌, ◌*◌, ◌%◌, ◌≤◌, ◌<◌}
use borrow.Author.Tests.{lt-ltb, le-ltb}
use lib.ListN.{length, get_or, set, take}
use Rattle.std.specs.List.{AllZip, each_same}
use Rattle.std.proofs.lemmas.List.{take_more}
use Rattle.std.proofs.lemmas.List.Sums.{fold_push}
use Rattle.test_scripts.specs.Sums.{checksum, replaced, SumsTo}

-- where an entry is converted to itself, as one of type u8, u16 or u32 is, the sum is that of the list
pub sum_of_numbers : (l : List ℕ) {sum : ℕ} → SumsTo (λ x y. y ≡ x) l sum → sum ≡ checksum l
sum_of_numbers l s = s.2 ∙ ap checksum (each_same l s.0 s.1)

zip_push : {A B : Type 0} (R : A → B → Type 0) (xs : List A) (ys : List B) {x : A} {y : B}
    → AllZip R xs ys → R x y → AllZip R (xs ++ x ∷ []) (ys ++ y ∷ [])
zip_push R [] [] h r = (r, tt)
zip_push R [] (z ∷ ys) h r = absurd h
zip_push R (w ∷ xs) [] h r = absurd h
zip_push R (w ∷ xs) (z ∷ ys) h r = (h.0, zip_push R xs ys h.1 r)

-- the sum over the first entries, and one entry more
pub sum_more : {A : Type 0} (R : A → ℕ → Type 0) (l : List A) (i : ℕ) {x : A} {y sum : ℕ} → i < length l → x ≡ get_or l i x → R x y
    → SumsTo R (take i l) sum → SumsTo R (take (i + 1) l) ((sum * 31 + y) % 1000000007)
sum_more R l i {x} {y} within is r s = (
  s.0 ++ y ∷ [],
  subst (λ front. AllZip R front (s.0 ++ y ∷ [])) (ap (λ z. take i l ++ z ∷ []) is ∙ sym (take_more l i x within)) (zip_push R _ _ s.1 r),
  ap (λ k. (k * 31 + y) % 1000000007) s.2 ∙ sym (fold_push _ 0 s.0 y),
)

-- there is such an entry; there is none
pub replaced_there : (l : List ℕ) (i x : ℕ) → i < length l → set l i x ≡ replaced l i x
replaced_there l i x h = rw (lt-ltb i (length l) h) refl

pub replaced_past : (l : List ℕ) (i x : ℕ) → length l ≤ i → l ≡ replaced l i x
replaced_past l i x h = rw (le-ltb i (length l) h) refl
