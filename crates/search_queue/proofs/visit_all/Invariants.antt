use Rattle.search_queue.specs.Visiting.{progress}
use Rattle.search_queue.proofs.Visiting.{Visiting}
use Rattle.search_queue.proofs.visit_all.Given as goal

abbrev pub invariant-loop-w : goal.invariant-loop-w
invariant-loop-w g l =
    Visiting l.d l.nodes l.count (progress l.initial.row l.initial.queue l.tail) l.w-index (progress l.row l.queue l.end)
