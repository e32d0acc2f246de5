use native.Mathlib.Omega.{arith}
use Rattle.test_scripts.proofs.Summing.{sum_more}
use Rattle.test_scripts.proofs.checksum.Goals as goal

pub loop-entry-preserved : goal.loop-entry-preserved
loop-entry-preserved g c =
    (omega arith, sum_more _ _ _ c.loop-entry-test.true c.entry-item.is c.into-number.ensures c.loop-entry.invariant.1)
