use native.Mathlib.Omega.{arith}
use Rattle.search_queue.proofs.Visiting.{next_below, visiting_next, visiting_all, visiting_none}
use Rattle.search_queue.proofs.visit_all.Goals as goal

pub visit-end-requires : goal.visit-end-requires
visit-end-requires g c = (
  next_below c.loop-w.invariant c.loop-w-test.true,
  omega (arith, c.loop-w.invariant.same),
  omega (arith, c.loop-w.invariant.count, c.loop-w.auto.queue),
  omega (arith, c.loop-w.invariant.count),
)

pub loop-w-preserved : goal.loop-w-preserved
loop-w-preserved g c = visiting_next c.loop-w.invariant c.loop-w-test.true c.requires.by_index.1 c.visit-end.ensures

pub returns-then-end-count : goal.returns-then-end-count
returns-then-end-count g c =
    let visited = visiting_next c.loop-w.invariant c.loop-w-test.true c.requires.by_index.1 c.visit-end.ensures in
    visiting_none visited c.if-end-count.true

pub returns-after-loop-w : goal.returns-after-loop-w
returns-after-loop-w g c = visiting_all c.loop-w.invariant c.loop-w-test.false
