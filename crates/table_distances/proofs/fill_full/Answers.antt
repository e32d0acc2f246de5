use Prim.Native.Nat.{◌<◌}
use native.Mathlib.Omega.{arith}
use lib.Dec.{lt→ltb}
use lib.ListN.{get_or}
use Rattle.model.proofs.Ascending.{get_d_has}
use Rattle.table_distances.proofs.Distances.{full_none, full_next, full_done}
use Rattle.table_distances.proofs.fill_full.Goals as goal

pub loop-hub-init : goal.loop-hub-init
loop-hub-init c = full_none _ _ c.requires.room (c.fill.ensures.after (λ y e. e))

pub search_row-requires : goal.search_row-requires
search_row-requires c =
    let below : get_or c.args.hubs.now c.loop-hub.hub-index 0 < c.args.survey.now.n
    = c.requires.by_index _ (get_d_has c.args.hubs.now _ c.loop-hub-test.true) in
    (below, rw c.insert_below.ensures (lt→ltb _ _ below), omega arith)

pub loop-hub-preserved : goal.loop-hub-preserved
loop-hub-preserved c =
    full_next c.loop-hub.invariant c.loop-hub-test.true (c.requires.by_index _ (get_d_has c.args.hubs.now _ c.loop-hub-test.true))
    c.insert_below.ensures c.search_row.ensures

pub returns : goal.returns
returns c = full_done _ _ c.requires.room (c.fill.ensures.after (λ y e. e)) c.loop-hub.invariant (omega arith)
