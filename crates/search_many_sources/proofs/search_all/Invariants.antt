use Prim.Native.Nat.{◌*◌}
use Rattle.base_nodeset.specs.NodeSet.{member}
use Rattle.survey_neighbours.specs.SurveyGraph.{graph}
use Rattle.search_many_sources.proofs.GroupDistances.{Grouped}
use Rattle.search_many_sources.proofs.search_all.Given as goal

abbrev pub invariant-loop-number : goal.invariant-loop-number
invariant-loop-number l = Grouped l.survey.n (member l.allowed) (graph l.survey) l.table (256 * l.number)
