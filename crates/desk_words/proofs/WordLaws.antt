-- When two words are the same, and when a word is a number.
-- Assumes nothing.
use mathlib.Core.Path.{◌≡◌, refl, sym, ap, ◌∙◌}
use mathlib.Core.Bool.{Bool, true, false, not, ◌&&◌, ◌||◌}
use mathlib.Core.List.{List, [], ◌∷◌, ◌++◌, append-nil}
use Prim.Native.Nat.{ℕ, ◌+◌}
use native.Mathlib.Nat.{le_refl}
use native.Mathlib.Omega.{arith}
use lib.Dec.{T, eqb, leb}
use lib.ListN.{length, drop, drop_of_length-le}
use Rattle.std.specs.Cmp.Lexicographic.{pointwise}
use Rattle.std.specs.Prelude.{Option, Some, None}
use Rattle.std.proofs.Common.{nat_eq}
use Rattle.std.proofs.lemmas.Option.{same_Some}
use Rattle.model.specs.Basics.{same, all}
use Rattle.model.specs.Numbers.{is_digit, is_number, value_of}
use Rattle.model.proofs.Tests.{true_T, and_l, and_r}
use Rattle.text_reading.specs.declared.Number.{Number}
use Rattle.text_reading.specs.Scan.{run, number_of, number_at}
use Rattle.text_reading.proofs.Runs.{run_digit, run_split}

-- ---- words

pub words_compared : (w v : List ℕ) → same w v ≡ pointwise nat_eq w v
unfolding same
words_compared [] [] = refl
words_compared [] (y ∷ v) = refl
words_compared (x ∷ w) [] = refl
words_compared (x ∷ w) (y ∷ v) = ap (λ (t : Bool). eqb x y && t) (words_compared w v)

-- ---- numbers

all_run : (t : List ℕ) → T (all is_digit t) → run t ≡ t
unfolding all run
all_run [] h = refl
all_run (b ∷ t) h =
    run_digit b t (and_l (is_digit b) (all is_digit t) h) ∙ ap (λ (u : List ℕ). b ∷ u) (all_run t (and_r (is_digit b) (all is_digit t) h))

-- a number is all the digits that the word begins with
number_run : (w : List ℕ) → is_number w ≡ true → run w ≡ w
unfolding is_number
number_run [] e = absurd (true_T _ e)
number_run (d ∷ ds) e =
    let short = and_l (all is_digit (d ∷ ds) && leb (length ds) 9) (eqb (length ds) 0 || not (eqb d 48)) (true_T _ e) in
    all_run (d ∷ ds) (and_l (all is_digit (d ∷ ds)) (leb (length ds) 9) short)

module _ (w : List ℕ) {found : Option Number} (is-found : found ≡ number_at w 0) where
  number_found : found ≡ number_of 0 (run w)
  unfolding number_at
  number_found = is-found

  -- what is found is the whole word, and so the word is that number
  pub number_whole : {x : Number} → found ≡ Some x → x.end ≡ length w → (is_number w ≡ true) × (value_of w ≡ x.value)
  number_whole {x} q d = at (is_number (run w)) refl
    where
      at : (t : Bool) → is_number (run w) ≡ t → (is_number w ≡ true) × (value_of w ≡ x.value)
      at false f =
          let none : number_of 0 (run w) ≡ None = rw f in
          absurd (cc (sym q ∙ number_found ∙ none))
      at true f =
          let some : number_of 0 (run w) ≡ Some (record { value = value_of (run w); end = 0 + length (run w) }) = rw f in
          let same : x ≡ record { value = value_of (run w); end = 0 + length (run w) } = same_Some _ _ (sym q ∙ number_found ∙ some) in
          let fits : length w ≡ length (run w) = omega (arith, d, ap (λ (n : Number). n.end) same) in
          let none_left : drop (length (run w)) w ≡ [] = ap (λ (k : ℕ). drop k w) (sym fits) ∙ drop_of_length-le w (le_refl _) in
          let whole : run w ≡ w = sym (append-nil (run w)) ∙ ap (λ (u : List ℕ). run w ++ u) (sym none_left) ∙ sym (run_split w) in
          (ap is_number (sym whole) ∙ f, ap value_of (sym whole) ∙ sym (ap (λ (n : Number). n.value) same))

  -- the whole word is not found, and so it is no number
  pub number_not : ((x : Number) → found ≡ Some x → x.end ≡ length w → ⊥) → is_number w ≡ false
  number_not d = at (is_number w) refl
    where
      at : (t : Bool) → is_number w ≡ t → t ≡ false
      at true e =
          let some : number_of 0 (run w) ≡ Some (record { value = value_of w; end = 0 + length w }) = rw (number_run w e, e) in
          absurd (d _ (number_found ∙ some) (omega arith))
      at false e = refl
