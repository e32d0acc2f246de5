-- The greatest of the distances, search by search.
-- Assumes nothing.
use mathlib.Core.Path.{◌≡◌, refl, sym, ap, ◌∙◌}
use mathlib.Core.Logic.{◌⊎◌, inl, inr}
use mathlib.Core.Bool.{Bool, true, false, not}
use mathlib.Core.List.{List, [], ◌∷◌, ◌++◌, map}
use Prim.Native.Nat.{ℕ, ◌+◌, ◌≤◌, ◌<◌, max}
use native.Mathlib.Omega.{arith}
use borrow.Author.Tests.{ne_eqb}
use lib.Dec.{eqb}
use lib.ListN.{length, get_or, drop, drop_of_length-le}
use Rattle.std.specs.Prelude.{if◌then◌else◌, Option, None, Some}
use Rattle.std.specs.Bool.{then_some}
use Rattle.std.specs.Option.{option_map}
use Rattle.model.specs.Basics.{none, up_to, gather}
use Rattle.model.specs.Graph.{Edges, fewest, linked}
use Rattle.model.specs.Survey.{Graph}
use Rattle.model.specs.Tables.{rows_of}
use Rattle.model.proofs.Lists.{first_most}
use Rattle.model.proofs.Loops.{drop_next}
use Rattle.model.proofs.Tests.{eq_or}
use Rattle.search_depths.specs.Depth.{greatest, depth_of}

-- ---- the greatest number

greatest_append : (k l : List ℕ) → greatest (k ++ l) ≡ max (greatest k) (greatest l)
unfolding greatest
greatest_append [] l = omega arith
greatest_append (x ∷ k) l = omega (arith, greatest_append k l)

-- ---- depths, which may be none

-- the depth of a row, from its greatest number
pub depth_read : (d x : ℕ) → d ≡ x → then_some (not (eqb d none)) d ≡ depth_of x
depth_read d x e = rw e (at (eqb x none))
  where
    at : (b : Bool) → then_some (not b) x ≡ (if b then None else Some x)
    at true = refl
    at false = refl

module _ (x y : ℕ) (small : y ≤ none) where
  -- where one search misses a node, all of them together do
  pub depth_missed : x ≤ none → depth_of x ≡ None → None ≡ depth_of (max x y)
  depth_missed bound e = at (eq_or x none)
    where
      at : (x ≡ none) ⊎ (x ≡ none → ⊥) → None ≡ depth_of (max x y)
      at (inl p) = let all : max x y ≡ none = omega arith in rw all
      at (inr d) = let one = ne_eqb x none d in absurd (cc)

  -- where one search misses none, the others decide
  pub depth_found : x ≤ none → {d : ℕ} → depth_of x ≡ Some d → (m : ℕ) → option_map (max (max m d)) (depth_of y) ≡ option_map (max m) (depth_of (max x y))
  depth_found bound {d} e m = at (eq_or x none) (eq_or y none)
    where
      at : (x ≡ none) ⊎ (x ≡ none → ⊥) → (y ≡ none) ⊎ (y ≡ none → ⊥)
          → option_map (max (max m d)) (depth_of y) ≡ option_map (max m) (depth_of (max x y))
      at (inl p) q = absurd (cc)
      at (inr p) (inl q) = let all : max x y ≡ none = omega arith in rw (all, q)
      at (inr p) (inr q) =
          let one = ne_eqb x none p in
          let same : x ≡ d = cc in
          let all : max x y ≡ none → ⊥ = λ a. omega arith in
          rw (ne_eqb y none q, ne_eqb (max x y) none all) (ap Some (omega arith))

-- ---- the distances of all searches

module _ (n : ℕ) (f : ℕ → ℕ → ℕ) (bounded : (h v : ℕ) → f h v ≤ none) where
  pub row_bounded : (h : ℕ) (l : List ℕ) → greatest (map (f h) l) ≤ none
  unfolding greatest
  row_bounded h [] = omega arith
  row_bounded h (x ∷ l) = omega (arith, bounded h x, row_bounded h l)

  pub greatest_bounded : (hs : List ℕ) → greatest (rows_of n f hs) ≤ none
  unfolding rows_of gather greatest
  greatest_bounded [] = omega arith
  greatest_bounded (h ∷ hs) = omega (arith, greatest_append (map (f h) (up_to n)) (rows_of n f hs), row_bounded h (up_to n), greatest_bounded hs)

-- no distance is above none
pub fewest_small : (E : Edges) (n a b : ℕ) → n ≤ none → fewest E n a b ≤ none
unfolding fewest
fewest_small E n a b h = first_most _ _ _ h

-- ---- loops: the greatest of what is left of a list

module _ (l : List ℕ) (i : ℕ) where
  pub greatest_next : i < length l → greatest (drop i l) ≡ max (get_or l i 0) (greatest (drop (i + 1) l))
  unfolding greatest
  greatest_next h = ap greatest (drop_next l i h)

  pub greatest_end : length l ≤ i → greatest (drop i l) ≡ 0
  unfolding greatest
  greatest_end h = ap greatest (drop_of_length-le l h)

-- the greatest distance from the nodes of a list
abbrev pub deepest : ℕ → Graph → List ℕ → ℕ
deepest n G hs = greatest (rows_of n (fewest (linked n G) n) hs)

module _ (n : ℕ) (G : Graph) where
  -- the first source, and the others
  pub deepest_first : (h : ℕ) (hs : List ℕ) → deepest n G (h ∷ hs) ≡ max (greatest (map (fewest (linked n G) n h) (up_to n))) (deepest n G hs)
  unfolding rows_of gather
  deepest_first h hs = greatest_append (map (fewest (linked n G) n h) (up_to n)) (rows_of n (fewest (linked n G) n) hs)

  -- no search finds a greater distance than none
  module _ (size : n ≤ 1024) where
    small : (a b : ℕ) → fewest (linked n G) n a b ≤ none
    small a b = fewest_small (linked n G) n a b (omega arith)

    -- a search from a node, and those from the nodes after it
    module _ (h : ℕ) (hs : List ℕ) {o : Option ℕ} (e : o ≡ depth_of (greatest (map (fewest (linked n G) n h) (up_to n)))) where
      pub deepest_missed : o ≡ None → None ≡ depth_of (deepest n G (h ∷ hs))
      deepest_missed q = rw (deepest_first h hs)
          (depth_missed _ _ (greatest_bounded n _ small hs) (row_bounded n _ small h (up_to n)) (sym e ∙ q))

      pub deepest_found : {d : ℕ} → o ≡ Some d → (m : ℕ)
          → option_map (max (max m d)) (depth_of (deepest n G hs)) ≡ option_map (max m) (depth_of (deepest n G (h ∷ hs)))
      deepest_found q m = rw (deepest_first h hs)
          (depth_found _ _ (greatest_bounded n _ small hs) (row_bounded n _ small h (up_to n)) (sym e ∙ q) m)

  -- those from node i of a list on
  module _ (hs : List ℕ) (i : ℕ) where
    pub deepest_next : i < length hs → {h : ℕ} → h ≡ get_or hs i 0 → deepest n G (drop i hs) ≡ deepest n G (h ∷ drop (i + 1) hs)
    deepest_next l e = ap (deepest n G) (drop_next hs i l) ∙ ap (λ (k : ℕ). deepest n G (k ∷ drop (i + 1) hs)) (sym e)

    pub deepest_end : length hs ≤ i → deepest n G (drop i hs) ≡ 0
    unfolding rows_of gather greatest
    deepest_end h = ap (deepest n G) (drop_of_length-le hs h)
