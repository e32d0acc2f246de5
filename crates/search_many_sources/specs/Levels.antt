-- One level of a search from a group of sources, the allowed nodes among 256 that follow one another. R says of each node and source
-- whether the source has reached the node.
-- Assumes nothing.
use Rattle.std.specs.Prelude.{◌≡◌, Bool, false, not, ◌&&◌, ◌||◌, List, ℕ, ◌+◌, ◌-◌, ◌<◌, T, eqb, leb, ltb}
use Rattle.model.specs.Basics.{none, any}
use Rattle.std.specs.Prelude.{if◌then◌else◌}
use Rattle.model.specs.Graph.{Edges, between, fewest, linked}
use Rattle.model.specs.Survey.{Graph}
use Rattle.model.specs.Tables.{table, entry_at}
use Rattle.search_source_sets.specs.SourceSets.{reached}

unfoldable pub in_group : (base : ℕ) → ℕ → Bool
in_group base c = leb base c && ltb c (base + 256)

unfoldable pub is_source : (base : ℕ) → (allowed : ℕ → Bool) → ℕ → Bool
is_source base allowed c = in_group base c && allowed c

-- source j of the group is node base + j
unfoldable pub reached_by : (base : ℕ) → List (List ℕ) → Edges
reached_by base rows v c = in_group base c && reached rows v (c - base)

-- a source has reached a node after one link more: it had, or the node is allowed and the source had reached a neighbour
unfoldable pub reached_next : (allowed : ℕ → Bool) → Graph → Edges → Edges
reached_next allowed G R v c = R v c || (allowed v && any (λ x. R x c) (G v))

unfoldable pub is_new : (allowed : ℕ → Bool) → Graph → Edges → Edges
is_new allowed G R v c = reached_next allowed G R v c && not (R v c)

-- node v's part of a level: R is what was reached before, F and F' what is, t and t' the table
pub record Step (n : ℕ) (allowed : ℕ → Bool) (G : Graph) (d v : ℕ) (R F F' : Edges) (t t' : List ℕ) (more : Bool) : Type 0 where
  pub here : (c : ℕ) → F' v c ≡ reached_next allowed G R v c
  pub others : (u c : ℕ) → (u ≡ v → ⊥) → F' u c ≡ F u c
  pub row : (c : ℕ) → c < n → entry_at n t' v c ≡ (if is_new allowed G R v c then d else entry_at n t v c)
  pub rest : (u c : ℕ) → u < n → c < n → (u ≡ v → ⊥) → entry_at n t' u c ≡ entry_at n t u c
  pub idle : more ≡ false → (c : ℕ) → c < n → is_new allowed G R v c ≡ false

-- a whole level
pub record Level (n : ℕ) (allowed : ℕ → Bool) (G : Graph) (d : ℕ) (R F : Edges) (t t' : List ℕ) (more : Bool) : Type 0 where
  pub now : (v c : ℕ) → v < n → F v c ≡ reached_next allowed G R v c
  pub rows : (v c : ℕ) → v < n → c < n → entry_at n t' v c ≡ (if is_new allowed G R v c then d else entry_at n t v c)
  pub idle : more ≡ false → (v c : ℕ) → v < n → c < n → is_new allowed G R v c ≡ false

-- node v has reached itself, if it is a source
pub record Begun (n : ℕ) (source : ℕ → Bool) (v : ℕ) (R R' : Edges) (t t' : List ℕ) : Type 0 where
  pub reached : (u c : ℕ) → R' u c ≡ ((eqb u v && (eqb c v && source v)) || R u c)
  pub rows : (u c : ℕ) → u < n → c < n → entry_at n t' u c ≡ (if eqb u v && (eqb c v && source v) then 0 else entry_at n t u c)

-- every source has reached itself with no link, and nothing else; the other columns are as they were
pub record BegunAll (n : ℕ) (source : ℕ → Bool) (R : Edges) (t t' : List ℕ) : Type 0 where
  pub reached : (u c : ℕ) → u < n → R u c ≡ (eqb u c && source c)
  pub rows : (u c : ℕ) → u < n → c < n → T (source c) → entry_at n t' u c ≡ (if eqb u c then 0 else none)
  pub rest : (u c : ℕ) → u < n → c < n → (T (source c) → ⊥) → entry_at n t' u c ≡ entry_at n t u c

-- the columns of the sources are none
abbrev pub Unfilled : (n : ℕ) → (source : ℕ → Bool) → List ℕ → Type 0
Unfilled n source t = (v c : ℕ) → v < n → c < n → T (source c) → entry_at n t v c ≡ none

-- the columns of the sources have the fewest links to them through allowed nodes, and the others are as they were
abbrev pub Filled : (n : ℕ) → (allowed source : ℕ → Bool) → Graph → List ℕ → List ℕ → Type 0
Filled n allowed source G t t' = (v c : ℕ) → v < n → c < n
    → entry_at n t' v c ≡ (if source c then fewest (between allowed (linked n G)) n c v else entry_at n t v c)

-- the fewest links from a to b through allowed nodes, if a is one
abbrev pub distance : ℕ → (allowed : ℕ → Bool) → Graph → ℕ → ℕ → ℕ
distance n allowed G a b = if allowed a then fewest (between allowed (linked n G)) n a b else none

-- between all nodes, as a table
abbrev pub distances : ℕ → (allowed : ℕ → Bool) → Graph → List ℕ
distances n allowed G = table n (distance n allowed G)
