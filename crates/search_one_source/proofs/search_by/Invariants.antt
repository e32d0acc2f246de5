use Prim.Native.Nat.{◌-◌}
use Rattle.survey_neighbours.specs.SurveyGraph.{graph}
use Rattle.search_queue.specs.Visiting.{progress}
use Rattle.search_one_source.proofs.QueueTurns.{Searching}
use Rattle.search_one_source.proofs.search_by.Given as goal

abbrev pub invariant-loop-head : goal.invariant-loop-head
invariant-loop-head g l =
    Searching l.survey.n (graph l.survey) l.source l.fn.row l.count (progress l.row l.queue l.tail) l.head

abbrev pub decreases-loop-head : goal.decreases-loop-head
decreases-loop-head g l = l.count - l.head
