use native.Mathlib.Omega.{arith}
use Rattle.base_nodeset.proofs.Words.{removed_more, removed_all}
use Rattle.base_nodeset.proofs.subtract.Goals as goal

pub loop-i-preserved : goal.loop-i-preserved
loop-i-preserved c = removed_more c.loop-i.invariant (omega arith) (c.type_inv.b _).fits

pub returns : goal.returns
returns c = removed_all c.loop-i.invariant (omega arith)
