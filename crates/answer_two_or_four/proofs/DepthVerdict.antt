-- The greatest of the distances decides whether a search misses a node and whether one goes deeper than 2.
-- Assumes nothing.
use mathlib.Core.Path.{◌≡◌, refl, sym, ap, ap₂, ◌∙◌}
use mathlib.Core.Logic.{◌⊎◌, inl, inr}
use mathlib.Core.Bool.{Bool, true, false, ◌||◌}
use mathlib.Core.List.{List, [], ◌∷◌, map}
use Prim.Native.Nat.{ℕ, ◌≤◌, ◌<◌, max}
use native.Mathlib.Omega.{arith}
use borrow.Author.Tests.{lt-ltb, le-ltb, eq-eqb, ne_eqb}
use lib.Dec.{eqb, ltb}
use Rattle.model.specs.Basics.{none, up_to, any, gather}
use Rattle.std.specs.Prelude.{if◌then◌else◌, None, Some}
use Rattle.model.specs.declared.Verdict.TheVariants.{Parted, Long, Short}
use Rattle.model.specs.Graph.{fewest, linked}
use Rattle.model.specs.Survey.{Graph}
use Rattle.model.specs.Tables.{rows_of}
use Rattle.model.specs.TwoOrFour.{verdict_of}
use Rattle.model.proofs.Lists.{any_append}
use Rattle.model.proofs.Tests.{eq_or, lt_or}
use Rattle.search_depths.specs.Depth.{greatest, depth_of}
use Rattle.search_depths.proofs.Depths.{greatest_bounded, fewest_small}
use Rattle.answer_two_or_four.specs.DepthVerdict.{of_depth}

-- some number is greater than k exactly where the greatest is
greatest_any : (k : ℕ) (l : List ℕ) → any (λ x. ltb k x) l ≡ ltb k (greatest l)
unfolding greatest any
greatest_any k [] = sym (le-ltb k 0 (omega arith))
greatest_any k (x ∷ l) = ap (λ (b : Bool). ltb k x || b) (greatest_any k l) ∙ at (lt_or k x) (lt_or k (greatest l))
  where
    at : (k < x) ⊎ (x ≤ k) → (k < greatest l) ⊎ (greatest l ≤ k) → (ltb k x || ltb k (greatest l)) ≡ ltb k (max x (greatest l))
    at (inl p) q = rw (lt-ltb k x p) (sym (lt-ltb k (max x (greatest l)) (omega arith)))
    at (inr p) (inl q) = rw (le-ltb k x p, lt-ltb k (greatest l) q) (sym (lt-ltb k (max x (greatest l)) (omega arith)))
    at (inr p) (inr q) = rw (le-ltb k x p, le-ltb k (greatest l) q) (sym (le-ltb k (max x (greatest l)) (omega arith)))

-- none, among numbers that are not above it
is_none : (x : ℕ) → x ≤ none → eqb x none ≡ ltb 65534 x
is_none x h = at (eq_or x none)
  where
    at : (x ≡ none) ⊎ (x ≡ none → ⊥) → eqb x none ≡ ltb 65534 x
    at (inl e) = eq-eqb x none e ∙ sym (lt-ltb 65534 x (omega arith))
    at (inr d) = ne_eqb x none d ∙ sym (le-ltb 65534 x (omega arith))

-- the verdict on a distance, which the rules write as none where there is none
of_depth_is : (d : ℕ) → of_depth (depth_of d) ≡ (if eqb d none then Parted else if ltb 2 d then Long else Short)
unfolding of_depth
of_depth_is d = at (eqb d none)
  where
    at : (b : Bool) → of_depth (if b then None else Some d) ≡ (if b then Parted else if ltb 2 d then Long else Short)
    at true = refl
    at false = refl

any_map : (p : ℕ → Bool) (f : ℕ → ℕ) (l : List ℕ) → any p (map f l) ≡ any (λ x. p (f x)) l
unfolding any
any_map p f [] = refl
any_map p f (x ∷ l) = ap (λ (b : Bool). p (f x) || b) (any_map p f l)

any_same : (p q : ℕ → Bool) (l : List ℕ) → ((x : ℕ) → p x ≡ q x) → any p l ≡ any q l
unfolding any
any_same p q [] e = refl
any_same p q (x ∷ l) e = ap₂ (λ (a b : Bool). a || b) (e x) (any_same p q l e)

-- ---- the distances of all searches

module _ (n : ℕ) (f : ℕ → ℕ → ℕ) where
  any_distance : (p : ℕ → Bool) (hs : List ℕ) → any (λ h. any (λ v. p (f h v)) (up_to n)) hs ≡ any p (rows_of n f hs)
  unfolding rows_of any gather
  any_distance p [] = refl
  any_distance p (h ∷ hs) =
      ap₂ (λ (a b : Bool). a || b) (sym (any_map p (f h) (up_to n))) (any_distance p hs)
      ∙ sym (any_append p (map (f h) (up_to n)) (rows_of n f hs))

  module _ (bounded : (h v : ℕ) → f h v ≤ none) where
    -- the tests of all distances together give what the test of the greatest gives
    depth_verdict : (hs : List ℕ)
        → of_depth (depth_of (greatest (rows_of n f hs)))
        ≡ (if any (λ h. any (λ v. eqb (f h v) none) (up_to n)) hs then Parted
        else if any (λ h. any (λ v. ltb 2 (f h v)) (up_to n)) hs then Long else Short)
    depth_verdict hs =
        let d = greatest (rows_of n f hs) in
        let none_is : eqb d none ≡ any (λ h. any (λ v. eqb (f h v) none) (up_to n)) hs =
        is_none d (greatest_bounded n f bounded hs)
        ∙ sym (greatest_any 65534 (rows_of n f hs))
        ∙ sym (any_distance (λ x. ltb 65534 x) hs)
        ∙ any_same _ _ hs (λ h. any_same _ _ (up_to n) (λ v. sym (is_none (f h v) (bounded h v)))) in
        let deep_is : ltb 2 d ≡ any (λ h. any (λ v. ltb 2 (f h v)) (up_to n)) hs =
        sym (greatest_any 2 (rows_of n f hs)) ∙ sym (any_distance (λ x. ltb 2 x) hs) in
        of_depth_is d ∙ rw (none_is, deep_is)

pub verdict_is : (n : ℕ) (G : Graph) → n ≤ 1024 → (hs : List ℕ)
    → of_depth (depth_of (greatest (rows_of n (fewest (linked n G) n) hs))) ≡ verdict_of n G hs
unfolding verdict_of
verdict_is n G size hs = depth_verdict n (fewest (linked n G) n) (λ h v. fewest_small (linked n G) n h v (omega arith)) hs
