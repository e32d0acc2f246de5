use Rattle.survey_neighbours.specs.SurveyGraph.{graph}
use Rattle.table_degree_split.proofs.Degrees.{HighBelow}
use Rattle.table_degree_split.proofs.high_nodes.Given as goal

abbrev pub invariant-loop-v : goal.invariant-loop-v
invariant-loop-v l = HighBelow l.s (graph l.survey) l.words l.v
