use Prim.Native.Nat.{◌-◌}
use Rattle.survey_neighbours.specs.SurveyGraph.{graph}
use Rattle.table_hubs.specs.Bounds.{Bounded}
use Rattle.table_hubs.proofs.Sets.{uncovered}
use Rattle.table_hubs.proofs.Greedy.{Choosing}
use Rattle.table_hubs.proofs.choose_hubs.Given as goal

abbrev pub invariant-loop-uncovered : goal.invariant-loop-uncovered
invariant-loop-uncovered l =
    Choosing l.survey.n l.s (graph l.survey) l.initial.list l.list l.uncovered l.count
    × Bounded l.survey.n (graph l.survey) (uncovered l.survey.n l.uncovered) l.bounds

abbrev pub decreases-loop-uncovered : goal.decreases-loop-uncovered
decreases-loop-uncovered l = l.survey.n - l.count
