use native.Mathlib.Omega.{arith}
use Rattle.table_hubs.proofs.Greedy.{ChosenHub, choosing_none, choosing_part, choosing_hub, choosing_more, choosing_all}
use Rattle.table_hubs.proofs.Greedy.{bounded_start, bounded_fewer}
use Rattle.table_hubs.proofs.choose_hubs.Goals as goal

pub loop-uncovered-init : goal.loop-uncovered-init
loop-uncovered-init c =
    let size = c.args.survey.now.accepted.size in
    (choosing_none size c.requires c.high_nodes.array_long c.high_nodes.ensures, bounded_start _ size)

pub overflow_cast-list : goal.overflow_cast-list
overflow_cast-list c =
    let hub : ChosenHub c.args.survey.now.n c.loop-uncovered.list c.loop-uncovered.count c.best_node-hub.result
    = choosing_hub c.loop-uncovered.invariant.0 c.smallest.ensures c.is_some.ensures c.loop-uncovered-test.true c.best_node-hub.ensures.value in
    omega (arith, hub.below, c.args.survey.now.accepted.size)

pub bounds-list-count : goal.bounds-list-count
bounds-list-count c =
    (choosing_hub c.loop-uncovered.invariant.0 c.smallest.ensures c.is_some.ensures c.loop-uncovered-test.true c.best_node-hub.ensures.value).room

pub cover-requires : goal.cover-requires
cover-requires c =
    (choosing_hub c.loop-uncovered.invariant.0 c.smallest.ensures c.is_some.ensures c.loop-uncovered-test.true c.best_node-hub.ensures.value).below

pub loop-uncovered-smaller : goal.loop-uncovered-smaller
loop-uncovered-smaller c =
    let hub : ChosenHub c.args.survey.now.n c.loop-uncovered.list c.loop-uncovered.count c.best_node-hub.result
    = choosing_hub c.loop-uncovered.invariant.0 c.smallest.ensures c.is_some.ensures c.loop-uncovered-test.true c.best_node-hub.ensures.value in
    omega (arith, hub.fewer)

pub loop-uncovered-preserved : goal.loop-uncovered-preserved
loop-uncovered-preserved c = (
  choosing_more c.loop-uncovered.invariant.0 c.smallest.ensures c.is_some.ensures c.loop-uncovered-test.true c.best_node-hub.ensures.value
      c.cover.array_long c.cover.ensures,
  bounded_fewer _ _ c.best_node-hub.ensures.bounded_2 _ c.cover.ensures,
)

pub slice_bounds-fill-count : goal.slice_bounds-fill-count
slice_bounds-fill-count c = (choosing_part c.loop-uncovered.invariant.0).0

pub slice_bounds-fill-start : goal.slice_bounds-fill-start
slice_bounds-fill-start c = (choosing_part c.loop-uncovered.invariant.0).0

pub returns-clause-value : goal.returns-clause-value
returns-clause-value c =
    (choosing_all c.loop-uncovered.invariant.0 c.smallest.ensures c.is_some.ensures c.loop-uncovered-test.false (c.fill.ensures.after (λ y e. e))).0

pub returns-clause-list_after : goal.returns-clause-list_after
returns-clause-list_after c =
    (choosing_all c.loop-uncovered.invariant.0 c.smallest.ensures c.is_some.ensures c.loop-uncovered-test.false (c.fill.ensures.after (λ y e. e))).1
