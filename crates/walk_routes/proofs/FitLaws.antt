-- The walk list at return: the two nodes of a link, a part turned round, or two of them joined, in a list that was all none.
-- Assumes nothing.
use mathlib.Core.Path.{◌≡◌, refl, sym, ap, ◌∙◌}
use mathlib.Core.Bool.{true, false}
use mathlib.Core.List.{List, [], ◌∷◌, ◌++◌, reverse, tail, reverse-reverse}
use mathlib.Core.Option.{Option, none as missing, some}
use Prim.Native.Nat.{ℕ, zero, suc, ◌+◌, ◌-◌, ◌≤◌, ◌<◌}
use native.Mathlib.Nat.{sub-zero, zero-sub, suc-sub-suc}
use native.Mathlib.Omega.{arith}
use lib.ListN.{length, take, drop, set, replicate, length-append, length-reverse}
use lib.Seq.{take_at, take-nil}
use Rattle.model.specs.declared.Answer.{Answer}
use Rattle.model.specs.Answers.{Outcome, refused, answered}
use Rattle.model.specs.Basics.{none, over}
use Rattle.model.specs.Survey.{Graph}
use Rattle.model.specs.Graph.{linked}
use Rattle.model.specs.Walk.{join, by_link}
use Rattle.model.specs.Walking.{AfterWalking, refuse_walk, fit}
use Rattle.model.proofs.Walks.{fit_short, fit_long}
use Rattle.base_lists.specs.Written.{Wrote}
use Rattle.base_lists.proofs.Written.{wrote_then, wrote_over}
use Rattle.walk_parts.specs.Found.{PartIs}
use Rattle.walk_routes.specs.Blank.{IsBlank}
use Rattle.std.specs.Prelude.{Option as Count, None, Some}

-- ---- lists

drop_replicate : (i n v : ℕ) → drop i (replicate n v) ≡ replicate (n - i) v
drop_replicate zero n v = rw sub-zero
drop_replicate (suc i) zero v = rw zero-sub
drop_replicate (suc i) (suc n) v = rw suc-sub-suc (drop_replicate i n v)

-- a front without its first entry
tail_take : (k : ℕ) (l : List ℕ) → take (k - 1) (drop 1 l) ≡ tail (take k l)
tail_take zero l = refl
tail_take (suc k) [] = take-nil (suc k - 1)
tail_take (suc k) (x ∷ l) = let e : suc k - 1 ≡ k = omega arith in rw e

length_tail : (l : List ℕ) → length (tail l) ≡ length l - 1
length_tail [] = omega arith
length_tail (x ∷ l) = omega arith

-- ---- a part that was found

-- the part is there, and its nodes, turned round, stand in front of the list
pub record Found (o : Option (List ℕ)) (count : ℕ) (nodes : List ℕ) : Type 0 where
  pub part : List ℕ
  pub is : o ≡ some part
  pub counted : count ≡ length part
  pub some_node : 1 ≤ count
  pub front : take count nodes ≡ reverse part

pub missed : {n : ℕ} {o : Option (List ℕ)} {count : Count ℕ} {old new : List ℕ} → PartIs n o count old new → count ≡ None → o ≡ missing
missed {o = missing} p e = refl
missed {o = some l} p e = let q = p.counted in cc

pub found : {n k : ℕ} {o : Option (List ℕ)} {count : Count ℕ} {old new : List ℕ} → PartIs n o count old new → count ≡ Some k → Found o k new
unfolding over
found {o = missing} p e = let q = p.counted in cc
found {k = k} {o = some l} {old = old} p e =
    let counted : k ≡ length l = let q = p.counted in cc in
    record {
      part = l;
      is = refl;
      counted = counted;
      some_node = (rw e at p.some_few).0;
      front = ap (take k) p.left ∙ take_at _ _ _ (length-reverse l ∙ sym counted);
    }

module _ {o : Option (List ℕ)} {count : ℕ} {nodes : List ℕ} (f : Found o count nodes) where
  turned : reverse (take count nodes) ≡ f.part
  turned = ap reverse f.front ∙ reverse-reverse f.part

  -- without the part's last node, which stands first
  behind_first : take (count - 1) (drop 1 nodes) ≡ tail (reverse f.part)
  behind_first = tail_take count nodes ∙ ap tail f.front

-- ---- two parts joined

pub first_missing : {p : Option (List ℕ)} (q : Option (List ℕ)) → p ≡ missing → join p q ≡ missing
unfolding join
first_missing q e = rw e

pub second_missing : (p : Option (List ℕ)) {q : Option (List ℕ)} → q ≡ missing → join p q ≡ missing
unfolding join
second_missing missing e = refl
second_missing (some l) e = rw e

module _ {p q : Option (List ℕ)} {i j : ℕ} {there back : List ℕ} (first : Found p i there) (second : Found q j back) where
  joined : List ℕ
  joined = first.part ++ tail (reverse second.part)

  join_is : join p q ≡ some joined
  unfolding join joined
  join_is = rw (first.is, second.is)

  joined_length : length joined ≡ i + j - 1
  unfolding joined
  joined_length =
      length-append first.part (tail (reverse second.part))
      ∙ omega (arith, length_tail (reverse second.part), length-reverse second.part)

-- ---- along a link

module _ (n : ℕ) (G : Graph) (a b : ℕ) where
  pub link_missing : linked n G a b ≡ false → by_link n G a b ≡ missing
  unfolding by_link
  link_missing e = rw e

  pub link_found : linked n G a b ≡ true → by_link n G a b ≡ some (a ∷ b ∷ [])
  unfolding by_link
  link_found e = rw e

-- the first two entries, written one after the other
two_set : (l : List ℕ) (a b : ℕ) → 2 ≤ length l → set (set l 0 a) 1 b ≡ over (a ∷ b ∷ []) l
unfolding over
two_set [] a b h = absurd (omega arith)
two_set (x ∷ []) a b h = absurd (omega arith)
two_set (x ∷ y ∷ l) a b h = refl

-- ---- what is given out

abbrev pub outcome : Outcome Answer → List ℕ → AfterWalking
outcome o l = record { answer = o; walk = l }

module _ {list : List ℕ} (blank : IsBlank list) (x : Answer) where
  pub none_refused : {o : Option (List ℕ)} → o ≡ missing → outcome (refused 11) list ≡ fit (length list) x o
  unfolding fit refuse_walk
  none_refused e = rw e (ap (outcome (refused 11)) blank)

  pub short_refused : (l : List ℕ) → length list < length l → outcome (refused 8) list ≡ fit (length list) x (some l)
  unfolding refuse_walk
  short_refused l h = ap (outcome (refused 8)) blank ∙ sym (fit_short (length list) _ _ h)

  pub fits_given : (l : List ℕ) {walk : List ℕ} → length l ≤ length list → walk ≡ over l list
      → outcome (answered x) walk ≡ fit (length list) x (some l)
  unfolding over
  fits_given l h e =
      let behind : drop (length l) list ≡ replicate (length list - length l) none =
      ap (drop (length l)) blank ∙ drop_replicate (length l) (length list) none in
      ap (outcome (answered x)) (e ∙ ap (λ (t : List ℕ). l ++ t) behind) ∙ sym (fit_long (length list) x l h)

  -- along a link
  module _ (n : ℕ) (G : Graph) (a b : ℕ) (e : linked n G a b ≡ true) where
    pub link_short : length list < 2 → outcome (refused 8) list ≡ fit (length list) x (by_link n G a b)
    link_short h = rw (link_found n G a b e) (short_refused (a ∷ b ∷ []) h)

    pub link_fits : 2 ≤ length list → outcome (answered x) (set (set list 0 a) 1 b) ≡ fit (length list) x (by_link n G a b)
    link_fits h = rw (link_found n G a b e) (fits_given (a ∷ b ∷ []) h (two_set list a b h))

  -- one part
  module _ {o : Option (List ℕ)} {count : ℕ} {nodes : List ℕ} (f : Found o count nodes) where
    pub part_short : length list < count → outcome (refused 8) list ≡ fit (length list) x o
    part_short h = rw f.is (short_refused f.part (omega (arith, f.counted)))

    pub part_fits : {e : ℕ} {walk : List ℕ} → count ≤ length list → Wrote list walk 0 e (reverse (take count nodes))
        → outcome (answered x) walk ≡ fit (length list) x o
    part_fits h w = rw f.is (fits_given f.part (omega (arith, f.counted)) (wrote_over f.part (rw (turned f) at w)).0)

  -- two parts
  module _ {p q : Option (List ℕ)} {i j : ℕ} {there back : List ℕ} (first : Found p i there) (second : Found q j back) where
    pub both_short : length list < i + j - 1 → outcome (refused 8) list ≡ fit (length list) x (join p q)
    both_short h = rw (join_is first second) (short_refused (joined first second) (omega (arith, joined_length first second)))

    pub both_fit : {d e : ℕ} {middle walk : List ℕ} → i + j - 1 ≤ length list → Wrote list middle 0 d (reverse (take i there))
        → Wrote middle walk i e (take (j - 1) (drop 1 back)) → outcome (answered x) walk ≡ fit (length list) x (join p q)
    unfolding joined
    both_fit {middle = middle} h v w =
        let long = joined_length first second in
        let front : Wrote list middle 0 i first.part = record {
          ends = omega (arith, first.counted);
          text = rw (turned first) at v.text;
        } in
        let split = length-append first.part (tail (reverse second.part)) in
        let whole = wrote_then (omega arith) front (rw (behind_first second) at w) in
        rw (join_is first second) (fits_given (joined first second) (omega arith) (wrote_over (joined first second) whole).0)
