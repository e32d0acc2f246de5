use native.Mathlib.Omega.{arith}
use Rattle.table_report.proofs.Linking.{linking_inside, linking_next, linking_done}
use Rattle.table_report.proofs.set_links.Goals as goal

pub bounds-row-b : goal.bounds-row-b
bounds-row-b c = linking_inside c.loop-b.invariant c.requires c.loop-b-test.true

pub loop-b-preserved : goal.loop-b-preserved
loop-b-preserved c =
    linking_next c.loop-b.invariant c.loop-b-test.true (linking_inside c.loop-b.invariant c.requires c.loop-b-test.true)

pub returns : goal.returns
returns c = linking_done c.loop-b.invariant (omega arith)
