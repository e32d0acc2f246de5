-- What the steps of one part of a walk read.
-- Assumes nothing.
use Rattle.std.specs.Prelude.{Bool, ◌&&◌, List, ℕ, ◌*◌, eqb, get_or}
use Rattle.std.proofs.Math.Option.{Option}
use Rattle.base_nodeset.specs.NodeSet.{member}
use Rattle.model.specs.Walk.{steps}
use Rattle.survey_neighbours.specs.SurveyGraph.{graph}
use Rattle.walk_parts.specs.declared.Part.{Part}

-- the links left from x, in a row of a table (stride 1) or in a column (stride n)
abbrev pub left_in : Part → ℕ → ℕ
left_in part x = get_or part.table.now (x * part.stride) 0

-- a part may go on to x: it may be entered, and is d links from the goal
unfoldable pub leads_on : Part → (d x : ℕ) → Bool
leads_on part d x = member part.allowed.now x && eqb (left_in part x) d

-- d steps from v to the goal
unfoldable pub steps_in : Part → (d v : ℕ) → Option (List ℕ)
steps_in part d v = steps (graph part.survey) (member part.allowed.now) (left_in part) part.goal d v
