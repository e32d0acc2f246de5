use mathlib.Core.Path.{refl}
use native.Mathlib.Nat.{le_refl}
use native.Mathlib.Omega.{arith}
use lib.Dec.{eqb→eq}
use lib.ListN.{set, replicate}
use Rattle.model.specs.Basics.{none}
use Rattle.survey_neighbours.specs.SurveyGraph.{graph}
use Rattle.search_one_source.proofs.QueueTurns.{few_open, search_start, head_near, own_below, search_turn, search_stop, search_end}
use Rattle.search_one_source.proofs.search_by.Goals as goal

pub loop-head-init : goal.loop-head-init
loop-head-init g c =
    let few = few_open c.args.row.now in
    search_start (graph c.args.survey.now) c.args.row.now (set (replicate 1025 0) 0 c.args.source) c.requires.row_length c.requires.source_lt_n.0
    (eqb→eq _ none c.requires.source_lt_n.1) (omega (arith, few, c.args.survey.now.accepted.size)) c.requires.source_lt_n.2 (omega arith) refl

pub overflow_add-d : goal.overflow_add-d
overflow_add-d g c = omega (arith, head_near (graph c.args.survey.now) c.loop-head.queue c.loop-head.invariant c.loop-head-test.true)

pub visit_all-tail-requires-clause-by_index : goal.visit_all-tail-requires-clause-by_index
visit_all-tail-requires-clause-by_index g c =
    let near = head_near (graph c.args.survey.now) c.loop-head.queue c.loop-head.invariant c.loop-head-test.true in (
      own_below (graph c.args.survey.now) c.loop-head.queue c.loop-head.invariant c.loop-head-test.true c.args.survey.now.accepted.lists.graph c.own-own.ensures,
      omega (arith, near),
    )

pub loop-head-preserved : goal.loop-head-preserved
loop-head-preserved g c =
    search_turn (graph c.args.survey.now) c.loop-head.queue c.loop-head.invariant c.loop-head-test.true c.args.survey.now.accepted.lists.graph
    c.own-own.ensures (eqb→eq _ none c.requires.source_lt_n.1) c.visit_all-tail.ensures

pub returns-else-tail-count : goal.returns-else-tail-count
returns-else-tail-count g c =
    let all = search_stop (graph c.args.survey.now) c.loop-head.invariant (omega arith) c.if-tail-count.false in
    search_end _ all (le_refl _) c.requires.source_lt_n.0

pub returns-after-loop-head : goal.returns-after-loop-head
returns-after-loop-head g c = search_end _ c.loop-head.invariant c.loop-head-test.false c.requires.source_lt_n.0
