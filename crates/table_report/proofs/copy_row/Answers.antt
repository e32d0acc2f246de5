use Rattle.std.proofs.Common.{arith}
use lib.Seq.{ext_get_or}
use Rattle.table_report.proofs.copy_row.Goals as goal

pub returns : goal.returns
returns c = ext_get_or 0 _ _ (omega arith) (λ k h. c.loop-b.invariant k (omega arith))
