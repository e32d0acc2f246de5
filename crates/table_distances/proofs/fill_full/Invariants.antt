use Rattle.survey_neighbours.specs.SurveyGraph.{graph}
use Rattle.table_distances.proofs.Distances.{FullTo}
use Rattle.table_distances.proofs.fill_full.Given as goal

abbrev pub invariant-loop-hub : goal.invariant-loop-hub
invariant-loop-hub l = FullTo l.survey.n (graph l.survey) l.hubs l.initial.full l.full l.hub-index
