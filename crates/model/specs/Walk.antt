-- The nodes of a walk, by its route. A part is a segment of the walk. (A walk lists report + 1 nodes: `walking_sound` and `walking_short`
-- of proofs/Demand.antt.)
-- Assumes nothing.
use Rattle.std.specs.Prelude.{Bool, true, ◌&&◌, ℕ, zero, suc, eqb}
use mathlib.Core.List.{List, [], ◌∷◌, ◌++◌, reverse, tail}
use Rattle.std.proofs.Math.Option.{Option, none as missing, some, map}
use Rattle.model.specs.declared.Route.{Route}
use Rattle.model.specs.declared.Route.TheVariants.{Itself, Low, Through, NoRoute, Link}
use Rattle.model.specs.Basics.{none, first_of}
use Rattle.std.specs.Prelude.{if◌then◌else◌}
use Rattle.model.specs.Survey.{Graph}
use Rattle.model.specs.Graph.{linked}
use Rattle.model.specs.Hubs.{is_low}
use Rattle.model.specs.Tables.{entry_at}

-- v in front of the rest of a walk, if there is a rest (rule 6.4)
unfoldable pub before : ℕ → Option (List ℕ) → Option (List ℕ)
before v o = map (λ l. v ∷ l) o

-- the node that follows v: its first neighbour that may be entered and is d links from the goal, or none. Neighbours ascend, so the first
-- is the smallest (rules 6.5 and 6.6)
unfoldable pub next : Graph → (ℕ → Bool) → (ℕ → ℕ) → ℕ → ℕ → ℕ
next G may left d v = first_of (λ x. may x && eqb (left x) d) none (G v)

-- rule 6.7: the nodes of d steps from v; missing where some step has no next node, or the last node is not the goal
unfoldable pub steps : Graph → (ℕ → Bool) → (ℕ → ℕ) → ℕ → ℕ → ℕ → Option (List ℕ)
steps G may left goal zero v = if eqb v goal then some (v ∷ []) else missing
steps G may left goal (suc d) v =
    let x = next G may left d v in
    let rest = steps G may left goal d x in
    if eqb x none then missing else before v rest

-- rule 6.5: the walk over low nodes, by the entries of Low
unfoldable pub by_low : ℕ → ℕ → Graph → List ℕ → (a b : ℕ) → Option (List ℕ)
by_low n s G low a b = steps G (is_low s G) (λ x. entry_at n low x b) b (entry_at n low a b) a

-- rule 6.6: the part from a to h
unfoldable pub to_hub : ℕ → Graph → List ℕ → (h a : ℕ) → Option (List ℕ)
to_hub n G full h a = steps G (λ x. true) (λ x. entry_at n full h x) h (entry_at n full h a) a

-- rule 6.6: the two parts, the second turned round
unfoldable pub join : Option (List ℕ) → Option (List ℕ) → Option (List ℕ)
join missing q = missing
join (some p) missing = missing
join (some p) (some q) = some (p ++ tail (reverse q))

-- rule 6.8: the two nodes; missing where they are not linked
unfoldable pub by_link : ℕ → Graph → (a b : ℕ) → Option (List ℕ)
by_link n G a b = if linked n G a b then some (a ∷ b ∷ []) else missing

-- rule 6.4: the nodes of the walk by a route, in graph G with threshold s; no nodes where there is no route
unfoldable pub walk_nodes : ℕ → ℕ → Graph → List ℕ → List ℕ → (a b : ℕ) → Route → Option (List ℕ)
walk_nodes n s G full low a b Itself = some (a ∷ [])
walk_nodes n s G full low a b Low = by_low n s G low a b
walk_nodes n s G full low a b (Through h) = join (to_hub n G full h a) (to_hub n G full h b)
walk_nodes n s G full low a b NoRoute = some []
walk_nodes n s G full low a b Link = by_link n G a b
