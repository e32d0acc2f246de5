use Rattle.survey_neighbours.specs.SurveyGraph.{graph}
use Rattle.base_lists.proofs.TableRows.{RowsTo}
use Rattle.base_nodeset.specs.NodeSet.{member}
use Rattle.search_many_sources.specs.Levels.{distance}
use Rattle.table_distances.proofs.low_rows.Given as goal

abbrev pub invariant-loop-a : goal.invariant-loop-a
invariant-loop-a l = RowsTo l.survey.n (distance l.survey.n (member l.low_nodes) (graph l.survey)) l.initial.low l.low l.a
