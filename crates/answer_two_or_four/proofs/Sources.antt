-- The nodes that the test searches from, and what the searches from them decide.
-- Assumes nothing.
use mathlib.Core.Path.{◌≡◌, refl, sym, ap, ap₂, ◌∙◌}
use mathlib.Core.Logic.{◌⊎◌, inl, inr}
use mathlib.Core.Bool.{Bool, true, false, not, ◌||◌}
use mathlib.Core.List.{List, [], ◌∷◌, map}
use Prim.Native.Nat.{ℕ, zero, suc, ◌+◌, ◌≤◌, ◌<◌, max}
use native.Mathlib.Omega.{arith}
use borrow.Author.Tests.{eq-eqb, ne_eqb, le-leb, lt-leb, lt-ltb, le-ltb}
use native.Mathlib.Numerals.{add-one}
use lib.Dec.{T, eqb, ltb, leb}
use lib.ListN.{length}
use Rattle.std.specs.Prelude.{if◌then◌else◌, Option, Some, None}
use Rattle.std.specs.Option.{option_map}
use Rattle.std.specs.List.{find, range_with_len}
use Rattle.model.specs.declared.Verdict.{Verdict}
use Rattle.model.specs.declared.TestResult.{TestResult}
use Rattle.model.specs.Answers.{Outcome}
use Rattle.model.specs.Basics.{none, up_to, from, has, first_of}
use Rattle.model.specs.Graph.{fewest, linked}
use Rattle.model.specs.Survey.{Graph}
use Rattle.model.specs.Tables.{rows_of}
use Rattle.model.specs.Testing.{testing}
use Rattle.model.specs.Demand.{TestRight}
use Rattle.model.specs.Hubs.{is_high, is_low, closed, hubs}
use Rattle.model.specs.TwoOrFour.{sources, test_result}
use Rattle.model.proofs.Demand.{testing_right}
use Rattle.model.proofs.Lists.{First, found, nothing, first_below, of_up_to}
use Rattle.model.proofs.Tests.{lt_or, or_r}
use Rattle.search_depths.specs.Depth.{greatest, depth_of}
use Rattle.search_depths.proofs.Depths.{deepest, deepest_first, deepest_missed, deepest_found}
use Rattle.answer_two_or_four.specs.DepthVerdict.{of_depth, of_searches}
use Rattle.answer_two_or_four.proofs.DepthVerdict.{verdict_is}

-- ---- searches from the nodes of a list

-- the greatest of all distances from them decides
pub result_is : (n : ℕ) (G : Graph) (hs : List ℕ) → n ≤ 1024 → {v : Verdict} {d : Option ℕ} {k : ℕ} → v ≡ of_depth d
    → d ≡ depth_of (greatest (rows_of n (fewest (linked n G) n) hs)) → k ≡ length hs → record { verdict = v; searches = k } ≡ of_searches n G hs
result_is n G hs size e q c =
    ap₂ (λ (x : Verdict) (j : ℕ). record { verdict = x; searches = j }) (e ∙ ap of_depth q ∙ verdict_is n G size hs) c

-- no depth is below 0
zero_depth : (x : Option ℕ) → option_map (max 0) x ≡ x
zero_depth None = refl
zero_depth (Some x) = ap Some (omega arith)

pub list_depth : (n : ℕ) (G : Graph) {list hs : List ℕ} {d : Option ℕ} → list ≡ hs
    → d ≡ option_map (max 0) (depth_of (greatest (rows_of n (fewest (linked n G) n) list)))
    → d ≡ depth_of (greatest (rows_of n (fewest (linked n G) n) hs))
list_depth n G o q = q ∙ zero_depth _ ∙ ap (λ (l : List ℕ). depth_of (deepest n G l)) o

-- those of a node, and then those of its neighbours
pub closed_depth : (n : ℕ) (G : Graph) (v : ℕ) {own : List ℕ} {first d : ℕ} → own ≡ G v
    → first ≡ greatest (map (fewest (linked n G) n v) (up_to n)) → d ≡ max first (greatest (rows_of n (fewest (linked n G) n) own))
    → d ≡ greatest (rows_of n (fewest (linked n G) n) (closed G v))
unfolding closed
closed_depth n G v o e q =
    omega (arith, ap (λ (l : List ℕ). greatest (rows_of n (fewest (linked n G) n) l)) o, deepest_first n G v (G v))

-- where a depth that is none ends the search
module _ (n : ℕ) (G : Graph) (v : ℕ) (size : n ≤ 1024) {first : Option ℕ}
    (e : first ≡ depth_of (greatest (map (fewest (linked n G) n v) (up_to n)))) where
  pub closed_missed : first ≡ None → None ≡ depth_of (greatest (rows_of n (fewest (linked n G) n) (closed G v)))
  unfolding closed
  closed_missed q = deepest_missed n G size v (G v) e q

  pub closed_found : {own : List ℕ} {x : ℕ} → own ≡ G v → first ≡ Some x
      → option_map (max x) (depth_of (greatest (rows_of n (fewest (linked n G) n) own)))
      ≡ depth_of (greatest (rows_of n (fewest (linked n G) n) (closed G v)))
  unfolding closed
  closed_found {own} {x} o q =
      ap (λ (l : List ℕ). option_map (max x) (depth_of (deepest n G l))) o
      ∙ ap (λ (k : ℕ). option_map (max k) (depth_of (deepest n G (G v)))) (omega arith)
      ∙ deepest_found n G size v (G v) e q 0
      ∙ zero_depth _

pub closed_count : (G : Graph) (v : ℕ) {own : List ℕ} → own ≡ G v → 1 + length own ≡ length (closed G v)
unfolding closed
closed_count G v o = omega (arith, ap length o)

-- ---- the smallest low node, if there is one

numbers : (k m : ℕ) → range_with_len k m ≡ from k m
unfolding from
numbers k zero = refl
numbers k (suc m) = ap (λ (l : List ℕ). k ∷ l) (rw add-one (numbers (suc k) m))

pub numbers_below : (n : ℕ) → range_with_len 0 n ≡ up_to n
unfolding up_to
numbers_below n = numbers 0 n

pub is_low_at : (s : ℕ) (G : Graph) (v : ℕ) → ltb (length (G v)) s ≡ is_low s G v
unfolding is_low is_high
is_low_at s G v = at (lt_or (length (G v)) s)
  where
    at : (length (G v) < s) ⊎ (s ≤ length (G v)) → ltb (length (G v)) s ≡ not (leb s (length (G v)))
    at (inl h) = rw (lt-ltb (length (G v)) s h, lt-leb s (length (G v)) h)
    at (inr h) = rw (le-ltb (length (G v)) s h, le-leb s (length (G v)) h)

module _ (p : ℕ → Bool) (d : ℕ) where
  -- what is found is the first one, and is in the list
  first_found : (l : List ℕ) {v : ℕ} → find p l ≡ Some v → (first_of p d l ≡ v) × T (has v l)
  unfolding first_of has
  first_found [] e = absurd (cc)
  first_found (x ∷ l) {v} e = at (p x) (λ f. first_found l f) e
    where
      at : (b : Bool) → (find p l ≡ Some v → (first_of p d l ≡ v) × T (has v l)) → (if b then Some x else find p l) ≡ Some v
          → ((if b then x else first_of p d l) ≡ v) × T (eqb v x || has v l)
      at true rest e = let same : x ≡ v = cc in (same, rw (eq-eqb v x (sym same)) tt)
      at false rest e = ((rest e).0, or_r (eqb v x) (has v l) (rest e).1)

  first_missed : (l : List ℕ) → find p l ≡ None → first_of p d l ≡ d
  unfolding first_of
  first_missed [] e = refl
  first_missed (x ∷ l) e = at (p x) (first_missed l) e
    where
      at : (b : Bool) → (find p l ≡ None → first_of p d l ≡ d) → (if b then Some x else find p l) ≡ None → (if b then x else first_of p d l) ≡ d
      at true rest e = absurd (cc)
      at false rest e = rest e

-- ---- the sources: the smallest low node and its neighbours, or the hubs

module _ (n s : ℕ) (G : Graph) where
  module _ {v : ℕ} (e : v ≡ first_of (is_low s G) none (up_to n)) where
    pub sources_hubs : v ≡ none → of_searches n G (hubs n s G) ≡ test_result n s G
    unfolding test_result sources
    sources_hubs h = rw (← e, eq-eqb v none h)

    pub sources_low : (v ≡ none → ⊥) → of_searches n G (closed G v) ≡ test_result n s G
    unfolding test_result sources
    sources_low h = rw (← e, ne_eqb v none h)

    pub low_below : (v ≡ none → ⊥) → v < n
    low_below h = at (rw e (first_below (is_low s G) none n))
      where
        at : First (is_low s G) none 0 n v → v < n
        at (found lo hi t least) = omega arith
        at (nothing q miss) = absurd (h q)

  -- the same by what `find` gives
  pub hubs_by_find : find (is_low s G) (up_to n) ≡ None → of_searches n G (hubs n s G) ≡ test_result n s G
  unfolding test_result sources
  hubs_by_find e = rw (first_missed (is_low s G) none (up_to n) e)

  module _ {v : ℕ} (e : find (is_low s G) (up_to n) ≡ Some v) where
    pub below_by_find : v < n
    below_by_find = of_up_to n v (first_found (is_low s G) none (up_to n) e).1

    pub low_by_find : n ≤ 1024 → of_searches n G (closed G v) ≡ test_result n s G
    unfolding test_result sources
    low_by_find size =
        let below : v < n = below_by_find in
        rw ((first_found (is_low s G) none (up_to n) e).0, ne_eqb v none (λ h. omega arith))

-- an answer by the rules is right
pub test_right : (n t : ℕ) (starts neighbours : List ℕ) (o : Outcome TestResult)
    → o ≡ testing n t starts neighbours → TestRight n t starts neighbours o
test_right n t starts neighbours o e = rw e (testing_right n t starts neighbours)
