-- The distances of one group's sources, found level by level, and those of all groups: a node's row has the distances from all sources,
-- which are the distances to them.
-- Assumes nothing.
use mathlib.Core.Path.{◌≡◌, refl, sym, ap, ◌∙◌, subst}
use mathlib.Core.Logic.{◌⊎◌, inl, inr, ⊎_elim}
use mathlib.Core.Bool.{Bool, true, false, ◌&&◌}
use mathlib.Core.List.{List}
use Prim.Native.Nat.{ℕ, zero, suc, ◌+◌, ◌*◌, ◌/◌, ◌%◌, ◌≤◌, ◌<◌}
use native.Mathlib.Nat.{mod-lt, div-lt_iff_lt-mul, div-add-mod', zero-mul}
use native.Mathlib.Omega.{arith}
use borrow.Author.Tests.{lt-ltb, le-ltb}
use lib.Dec.{T, ltb}
use lib.ListN.{length, get_or, replicate, length-replicate, get_or-replicate}
use Rattle.model.specs.Basics.{none}
use Rattle.std.specs.Prelude.{if◌then◌else◌}
use Rattle.model.specs.Graph.{Edges, between, linked, fewest, Fewest, Unjoined}
use Rattle.model.specs.Survey.{Graph, IsGraph}
use Rattle.model.specs.Tables.{entry_at}
use Rattle.model.proofs.Acceptance.{linked_sym}
use Rattle.model.proofs.Chains.{turn, fewest_cases, fewest_of, fewest_missing}
use Rattle.model.proofs.Entries.{place_inside}
use Rattle.model.proofs.TableLaws.{between_ends, between_missed}
use Rattle.model.proofs.Tests.{and_l, and_r, and_i, passes, T_true, no_false, lt_or}
use Rattle.base_lists.proofs.TableRows.{is_table}
use Rattle.search_many_sources.specs.Levels.{in_group, is_source, reached_by, Level, BegunAll, Unfilled, Filled, distances}
use Rattle.search_many_sources.proofs.Begins.{group_is, is_group}
use Rattle.search_many_sources.proofs.Reach.{Known, known_start, known_next, filled_idle, filled_end}

-- ---- one group, level by level

pub source_allowed : (base : ℕ) (p : ℕ → Bool) (c : ℕ) → T (is_source base p c) → T (p c)
unfolding is_source
source_allowed base p c t = and_r (in_group base c) (p c) t

-- after the levels below d
pub record Searched (n base : ℕ) (p : ℕ → Bool) (G : Graph) (t₀ : List ℕ) (near : List (List ℕ)) (t : List ℕ) (d : ℕ) : Type 0 where
  pub level : ℕ
  pub is : d ≡ suc level
  pub known : Known n p (is_source base p) G (source_allowed base p) t₀ level (reached_by base near) t
  pub size : length t ≡ n * n

module _ (n base : ℕ) (p : ℕ → Bool) (G : Graph) (t₀ : List ℕ) where
  pub searched_start : (near : List (List ℕ)) → BegunAll n (is_source base p) (reached_by base near) t₀ t₀
      → length t₀ ≡ n * n → Searched n base p G t₀ near t₀ 1
  searched_start near b k = record {
    level = 0;
    is = refl;
    known = known_start n p (is_source base p) G (source_allowed base p) (reached_by base near) t₀ b;
    size = k;
  }

  pub searched_end : (near : List (List ℕ)) (t : List ℕ) (d : ℕ) → Searched n base p G t₀ near t d → n ≤ d → Filled n p (is_source base p) G t₀ t
  searched_end near t d s h =
      filled_end n p (is_source base p) G (source_allowed base p) t₀ s.level (reached_by base near) t s.known (omega (arith, s.is))

  module _ (g : IsGraph n G) (near far' : List (List ℕ)) (t t' : List ℕ) (d : ℕ) (more : Bool) (s : Searched n base p G t₀ near t d)
      (l : Level n p G d (reached_by base near) (reached_by base far') t t' more) where
    same : Level n p G (suc s.level) (reached_by base near) (reached_by base far') t t' more
    same = subst (λ (x : ℕ). Level n p G x (reached_by base near) (reached_by base far') t t' more) s.is l

    -- one level more
    pub searched_next : (e : ℕ) → e ≡ d + 1 → length t' ≡ length t → Searched n base p G t₀ far' t' e
    searched_next e z q = record {
      level = suc s.level;
      is = omega (arith, s.is);
      known = known_next n p (is_source base p) G (source_allowed base p) t₀ g s.level _ _ t t' more s.known same;
      size = q ∙ s.size;
    }

    pub searched_idle : more ≡ false → d ≤ n → Filled n p (is_source base p) G t₀ t'
    searched_idle idle h =
        filled_idle n p (is_source base p) G (source_allowed base p) t₀ g s.level _ _ t t' more s.known same idle (omega (arith, s.is))

-- how the search begins in the table that it leaves
pub begun_same : (n : ℕ) (s : ℕ → Bool) (R : Edges) (t t' : List ℕ) → BegunAll n s R t t' → BegunAll n s R t' t'
begun_same n s R t t' b = record { reached = b.reached; rows = b.rows; rest = λ u c hu hc f. refl }

-- and in the table that it found
pub filled_begun : (n : ℕ) (p s : ℕ → Bool) (G : Graph) (R : Edges) (t t' t'' : List ℕ) → BegunAll n s R t t' → Filled n p s G t' t''
    → Filled n p s G t t''
filled_begun n p s G R t t' t'' b f v c hv hc = f v c hv hc ∙ ⊎_elim
    (λ a. rw (T_true (s c) a) refl)
    (λ a. rw (no_false (s c) a) (b.rest v c hv hc a))
    (passes (s c))

-- ---- all groups

module _ (n : ℕ) (p : ℕ → Bool) (G : Graph) where
  abbrev E : Edges
  E = between p (linked n G)

  -- the columns below base are filled, and the others are none
  pub record Grouped (t : List ℕ) (base : ℕ) : Type 0 where
    pub size : length t ≡ n * n
    pub says : (v c : ℕ) → v < n → c < n
        → entry_at n t v c ≡ (if ltb c base && p c then fewest (between p (linked n G)) n c v else none)

  pub grouped_none : (t : List ℕ) (k : ℕ) → k ≡ n * n → t ≡ replicate k none → Grouped t 0
  unfolding entry_at
  grouped_none t k l e = record {
    size = ap length e ∙ length-replicate k none ∙ l;
    says = λ v c hv hc.
        ap (λ (x : List ℕ). get_or x (v * n + c) 0) e
        ∙ get_or-replicate k (v * n + c) none 0 (omega (arith, place_inside n v c hv hc))
        ∙ sym (rw (le-ltb c 0 (omega arith)) refl);
  }

  module _ (t : List ℕ) (base : ℕ) (r : Grouped t base) where
    pub grouped_unfilled : Unfilled n (is_source base p) t
    unfolding is_source
    grouped_unfilled v c hv hc a =
        r.says v c hv hc ∙ rw (le-ltb c base (group_is base c (and_l (in_group base c) (p c) a)).0) refl

    pub grouped_more : (t' : List ℕ) → length t' ≡ length t → Filled n p (is_source base p) G t t' → Grouped t' (base + 256)
    unfolding is_source
    grouped_more t' l f = record {
      size = l ∙ r.size;
      says = λ v c hv hc.
          f v c hv hc
          ∙ ap (λ (x : ℕ). if in_group base c && p c then fewest E n c v else x) (r.says v c hv hc)
          ∙ at v c (lt_or c base) (lt_or c (base + 256));
    }
      where
        at : (v c : ℕ) → (c < base) ⊎ (base ≤ c) → (c < base + 256) ⊎ (base + 256 ≤ c)
            → (if in_group base c && p c then fewest E n c v else if ltb c base && p c then fewest E n c v else none)
            ≡ (if ltb c (base + 256) && p c then fewest E n c v else none)
        at v c (inl a) b = rw (lt-ltb c base a, lt-ltb c (base + 256) (omega arith)) (either (in_group base c) (p c))
          where
            either : (x y : Bool) → (if x && y then fewest E n c v else if y then fewest E n c v else none) ≡ (if y then fewest E n c v else none)
            either true true = refl
            either true false = refl
            either false y = refl
        at v c (inr a) (inl b) = rw (is_group base c a b, le-ltb c base a, lt-ltb c (base + 256) b) refl
        at v c (inr a) (inr b) = rw (
          no_false (in_group base c) (λ t. omega (arith, (group_is base c t).1)),
          le-ltb c base a,
          le-ltb c (base + 256) b,
        ) refl

  symmetric : (u v : ℕ) → T (E u v) → T (E v u)
  symmetric u v t =
      let b = and_l (p u && p v) (linked n G u v) t in
      and_i (p v && p u) (linked n G v u) (and_i (p v) (p u) (and_r (p u) (p v) b) (and_l (p u) (p v) b))
      (linked_sym n G u v (and_r (p u && p v) (linked n G u v) t))

  -- the fewest links from a to b are those from b to a
  turned : (a b : ℕ) → a < n → b < n → fewest E n a b ≡ fewest E n b a
  turned a b ha hb = at (fewest_cases E n b (between_ends p n G) hb a)
    where
      at : ((fewest E n b a < n) × Fewest E b a (fewest E n b a)) ⊎ ((fewest E n b a ≡ none) × Unjoined E b a)
          → fewest E n a b ≡ fewest E n b a
      at (inl s) = fewest_of E n a (between_ends p n G) ha b (fewest E n b a) (turn symmetric s.1.0, λ k c. s.1.1 k (turn symmetric c))
      at (inr s) = fewest_missing E n a (between_ends p n G) ha b (λ k c. s.1 k (turn symmetric c)) ∙ sym s.0

  either_way : (v c : ℕ) → v < n → c < n → (if p c then fewest E n c v else none) ≡ (if p v then fewest E n v c else none)
  either_way v c hv hc = at (passes (p v)) (passes (p c))
    where
      at : T (p v) ⊎ (T (p v) → ⊥) → T (p c) ⊎ (T (p c) → ⊥) → (if p c then fewest E n c v else none) ≡ (if p v then fewest E n v c else none)
      at (inl a) (inl b) = rw (T_true (p v) a, T_true (p c) b) (turned c v hc hv)
      at (inl a) (inr b) = rw (T_true (p v) a, no_false (p c) b) (sym (between_missed p n G v c hv a b))
      at (inr a) (inl b) = rw (no_false (p v) a, T_true (p c) b) (between_missed p n G c v hc b a)
      at (inr a) (inr b) = rw (no_false (p v) a, no_false (p c) b) refl

  pub grouped_all : (t : List ℕ) (base : ℕ) → Grouped t base → n ≤ base → t ≡ distances n p G
  unfolding entry_at
  grouped_all t base r h = is_table n (λ a b. if p a then fewest E n a b else none) r.size (λ i k.
      let a = (div-lt_iff_lt-mul (some n k)).1 k in
      let b = mod-lt i (some n k) in
      ap (λ (x : ℕ). get_or t x 0) (sym (div-add-mod' i n))
      ∙ r.says (i / n) (i % n) a b
      ∙ ap (λ (x : Bool). if x && p (i % n) then fewest E n (i % n) (i / n) else none) (lt-ltb (i % n) base (omega (arith, b)))
      ∙ either_way (i / n) (i % n) a b)
    where
      some : (x : ℕ) → {i : ℕ} → i < x * x → 0 < x
      some zero k = absurd (omega (arith, zero-mul 0))
      some (suc x) k = omega arith
