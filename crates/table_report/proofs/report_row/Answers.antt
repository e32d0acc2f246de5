use native.Mathlib.Omega.{arith}
use Rattle.table_report.proofs.Reports.{row_copied, HubInside, hub_inside, row_next, row_done}
use Rattle.table_report.proofs.report_row.Goals as goal

pub loop-hub-init : goal.loop-hub-init
loop-hub-init c = row_copied c.requires.tables.1 c.requires.by_index.1 c.copy_row.ensures

pub bounds-full-first : goal.bounds-full-first
bounds-full-first c =
    let inside : HubInside c.args.survey.now.n c.args.hubs.now c.args.a c.loop-hub.hub-index
    = hub_inside c.requires.by_index.0 c.requires.by_index.1 c.loop-hub-test.true in
    omega arith

pub slice_bounds-relax-end : goal.slice_bounds-relax-end
slice_bounds-relax-end c =
    let inside : HubInside c.args.survey.now.n c.args.hubs.now c.args.a c.loop-hub.hub-index
    = hub_inside c.requires.by_index.0 c.requires.by_index.1 c.loop-hub-test.true in
    omega arith

pub loop-hub-preserved : goal.loop-hub-preserved
loop-hub-preserved c =
    let inside : HubInside c.args.survey.now.n c.args.hubs.now c.args.a c.loop-hub.hub-index
    = hub_inside c.requires.by_index.0 c.requires.by_index.1 c.loop-hub-test.true in
    row_next c.loop-hub.invariant c.requires.tables.0 (λ i. omega (arith, c.type_inv.low i)) c.loop-hub-test.true inside.hub_below c.relax.ensures

pub returns : goal.returns
returns c =
    row_done c.loop-hub.invariant (omega arith) c.requires.by_index.1 c.args.survey.now.accepted.lists.graph c.own.ensures
    c.set_links.ensures
