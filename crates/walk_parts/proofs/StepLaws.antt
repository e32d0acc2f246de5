-- One step of a part, and the steps after it.
-- Assumes nothing.
use mathlib.Core.Path.{◌≡◌, refl, sym, ap, ap₂, ◌∙◌, subst}
use mathlib.Core.Bool.{Bool, true, false}
use mathlib.Core.List.{List, [], ◌∷◌, ◌++◌, reverse, reverse-cons}
use mathlib.Core.Option.{Option, none as missing, some}
use Prim.Native.Nat.{ℕ, zero, suc, ◌-◌, ◌<◌}
use native.Mathlib.Omega.{arith}
use borrow.Author.Tests.{eq-eqb, ne_eqb}
use lib.Dec.{T, eqb}
use lib.ListN.{length, get_or, take, drop, set, length-reverse}
use lib.Seq.{set_split, drop_at, length-take-le, append_snoc}
use Rattle.std.specs.Prelude.{if◌then◌else◌, None, Some}
use Rattle.std.specs.List.{find}
use Rattle.model.specs.Basics.{none, has, over, first_of}
use Rattle.model.specs.Graph.{Edges, linked}
use Rattle.model.specs.Survey.{Graph}
use Rattle.model.specs.Walk.{before, next, steps}
use Rattle.model.proofs.Lists.{has_head, has_tail}
use Rattle.model.proofs.Walks.{Sound, steps_sound}
use Rattle.survey_neighbours.specs.SurveyGraph.{graph}
use Rattle.walk_parts.specs.declared.Part.{Part}
use Rattle.walk_parts.specs.Found.{is_found, Leaves}
use Rattle.walk_parts.specs.Parts.{left_in, leads_on, steps_in}

-- ---- the first element of a list that passes a test

none_found : (p : ℕ → Bool) (l : List ℕ) → None ≡ find p l → first_of p none l ≡ none
unfolding first_of
none_found p [] e = refl
none_found p (y ∷ ys) e = at (p y) (none_found p ys) e
  where
    at : (b : Bool) → (None ≡ find p ys → first_of p none ys ≡ none) → None ≡ (if b then Some y else find p ys)
        → (if b then y else first_of p none ys) ≡ none
    at true f e = cc
    at false f e = f e

some_found : (p : ℕ → Bool) (l : List ℕ) {x : ℕ} → Some x ≡ find p l → (x ≡ first_of p none l) × T (has x l)
unfolding first_of
some_found p [] e = cc
some_found p (y ∷ ys) {x} e = at (p y) (λ e. some_found p ys e) e
  where
    at : (b : Bool) → (Some x ≡ find p ys → (x ≡ first_of p none ys) × T (has x ys)) → Some x ≡ (if b then Some y else find p ys)
        → (x ≡ (if b then y else first_of p none ys)) × T (has x (y ∷ ys))
    at true f e = let q : x ≡ y = cc in (q, rw q (has_head _ _))
    at false f e = ((f e).0, has_tail _ _ _ (f e).1)

-- what holds of each element of a list
pub all_below : (n : ℕ) (l : List ℕ) → ((x : ℕ) → T (has x l) → x < n) → (k d : ℕ) → k < length l → get_or l k d < n
all_below n [] f k d h = absurd (omega arith)
all_below n (y ∷ ys) f zero d h = f y (has_head _ _)
all_below n (y ∷ ys) f (suc k) d h = all_below n ys (λ x m. f x (has_tail _ _ _ m)) k d (omega arith)

-- ---- the steps from v where there is no next node, or x is the next

module _ (G : Graph) (may : ℕ → Bool) (left : ℕ → ℕ) (goal : ℕ) where
  steps_stuck : (d v : ℕ) → (d ≡ 0 → ⊥) → next G may left (d - 1) v ≡ none → steps G may left goal d v ≡ missing
  unfolding steps
  steps_stuck zero v f z = absurd (f refl)
  steps_stuck (suc d) v f z =
      let k : suc d - 1 ≡ d = omega arith in
      rw (eq-eqb _ _ (ap (λ (j : ℕ). next G may left j v) (sym k) ∙ z))

  steps_on : (d v x : ℕ) → (d ≡ 0 → ⊥) → x ≡ next G may left (d - 1) v → (x ≡ none → ⊥)
      → steps G may left goal d v ≡ before v (steps G may left goal (d - 1) x)
  unfolding steps
  steps_on zero v x f e z = absurd (f refl)
  steps_on (suc d) v x f e z =
      let k : suc d - 1 ≡ d = omega arith in
      let q : x ≡ next G may left d v = e ∙ ap (λ (j : ℕ). next G may left j v) k in
      rw (k, ← q, ne_eqb x none z)

-- ---- what steps leave

-- nothing is asked where there is no part
none_left : {o : Option (List ℕ)} (old new : List ℕ) → o ≡ missing → (false ≡ is_found o) × Leaves o old new
none_left old new e = subst (λ (o : Option (List ℕ)). (false ≡ is_found o) × Leaves o old new) (sym e) (refl, tt)

-- a node written behind a part's nodes: the part with that node in front of it
over_more : (l nodes : List ℕ) (d v : ℕ) → length l ≡ d → d < length nodes → over (reverse l) (set nodes d v) ≡ over (reverse (v ∷ l)) nodes
unfolding over
over_more l nodes d v e h =
    let f : drop (length (reverse l)) (set nodes d v) ≡ v ∷ drop (suc d) nodes =
    ap (λ (k : ℕ). drop k (set nodes d v)) (length-reverse l ∙ e) ∙ ap (drop d) (set_split nodes d v h)
    ∙ drop_at (take d nodes) _ d (length-take-le d nodes (omega arith)) in
    let g : length (reverse (v ∷ l)) ≡ suc d = length-reverse (v ∷ l) ∙ ap suc e in
    ap (λ (t : List ℕ). reverse l ++ t) f ∙ sym (append_snoc (reverse l) v (drop (suc d) nodes))
    ∙ ap₂ (λ (t : List ℕ) (k : ℕ). t ++ drop k nodes) (sym (reverse-cons v l)) (sym g)

-- the same for the part that there may be, of k links
before_done : (o : Option (List ℕ)) {d : ℕ} (v : ℕ) (nodes new : List ℕ) {r : Bool} → d < length nodes
    → (E : Edges) (k x goal : ℕ) → suc k ≡ d → Sound E k x goal o
    → (r ≡ is_found o) × Leaves o (set nodes d v) new → (r ≡ is_found (before v o)) × Leaves (before v o) nodes new
unfolding before
before_done missing v nodes new h E k x goal e s w = (w.0, tt)
before_done (some l) {d} v nodes new h E k x goal e s w = (w.0, w.1 ∙ over_more l nodes d v (s.1 ∙ e) h)

-- ---- one call

-- what it answers and leaves, with d links left from v
abbrev pub Done : Part → (d v : ℕ) → Bool → (old new : List ℕ) → Type 0
Done part d v r old new = (r ≡ is_found (steps_in part d v)) × Leaves (steps_in part d v) old new

-- what it may rely on: v is a node of the survey, and there is room for the nodes
pub record Going (part : Part) (d v : ℕ) (nodes : List ℕ) : Type 0 where
  pub below : v < part.survey.n
  pub room : d < length nodes

-- the search for a step: o is the first node of v's row that leaves one link fewer, if there is one
pub record Step (part : Part) (d v : ℕ) (o : _) : Type 0 where
  pub some_left : d ≡ 0 → ⊥
  pub search : o ≡ find (leads_on part (d - 1)) (graph part.survey v)

pub step_of : (part : Part) {d v : ℕ} {row : List ℕ} {o p : _} → (d ≡ 0 → ⊥) → row ≡ graph part.survey v
    → o ≡ find (leads_on part (d - 1)) row → o ≡ p → Step part d v p
step_of part some_left e f q = record { some_left = some_left; search = sym q ∙ rw e at f }

module _ {part : Part} {d v : ℕ} {nodes : List ℕ} (going : Going part d v nodes) where
  -- no step is left
  pub last_step : d ≡ 0 → Done part d v (eqb v part.goal) nodes (set nodes d v)
  unfolding steps_in steps over
  last_step e =
      subst (λ (k : ℕ). Done part k v (eqb v part.goal) nodes (set nodes k v)) (sym e) (at (eqb v part.goal))
    where
      front : set nodes 0 v ≡ over (reverse (v ∷ [])) nodes
      front = over_more [] nodes 0 v refl (omega (arith, going.room))

      at : (t : Bool) → (t ≡ is_found (if t then some (v ∷ []) else missing))
          × Leaves (if t then some (v ∷ []) else missing) nodes (set nodes 0 v)
      at true = (refl, front)
      at false = (refl, tt)

  -- no step leads on
  pub no_step : Step part d v None → Done part d v false nodes (set nodes d v)
  unfolding steps_in next leads_on
  no_step step = none_left _ _ (steps_stuck _ _ _ part.goal d v step.some_left (none_found _ _ step.search))

  module _ {x : ℕ} (step : Step part d v (Some x)) where
    -- a step leads on to a node below n
    pub step_below : x < part.survey.n
    step_below = part.survey.accepted.lists.graph.below v x going.below (some_found _ _ step.search).1

    -- and the steps from there make those from v
    pub step_on : {r : Bool} (new : List ℕ) → Done part (d - 1) x r (set nodes d v) new → Done part d v r nodes new
    unfolding steps_in next leads_on
    step_on {r} new w =
        let below = step_below in
        let f : x ≡ none → ⊥ = λ z. omega (arith, part.survey.accepted.size) in
        let one : suc (d - 1) ≡ d = omega (arith, step.some_left) in
        let sound = steps_sound part.survey.n _ part.survey.accepted.lists.graph _ (left_in part) part.goal (d - 1) x below in
        subst (λ (o : Option (List ℕ)). (r ≡ is_found o) × Leaves o nodes new)
        (sym (steps_on _ _ _ part.goal d v x step.some_left (some_found _ _ step.search).0 f))
        (before_done _ _ _ _ going.room (linked part.survey.n (graph part.survey)) (d - 1) x part.goal one sound w)
