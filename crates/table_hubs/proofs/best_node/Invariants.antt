use Rattle.survey_neighbours.specs.SurveyGraph.{graph}
use Rattle.table_hubs.proofs.Sets.{uncovered}
use Rattle.table_hubs.proofs.Greedy.{Seeking}
use Rattle.table_hubs.proofs.best_node.Given as goal

abbrev pub invariant-loop-v : goal.invariant-loop-v
invariant-loop-v l = Seeking l.survey.n (graph l.survey) (uncovered l.survey.n l.uncovered) l.initial.bounds l.bounds l.node l.most l.v
