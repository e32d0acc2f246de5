use native.Mathlib.Omega.{arith}
use Rattle.table_report.proofs.Relaxing.{relaxing_next, relaxing_done}
use Rattle.table_report.proofs.relax.Goals as goal

pub loop-b-preserved : goal.loop-b-preserved
loop-b-preserved c = relaxing_next c.loop-b.invariant (omega arith) (omega arith)

pub returns : goal.returns
returns c = relaxing_done c.loop-b.invariant (omega arith)
