use native.Mathlib.Omega.{arith}
use Rattle.base_nodeset.proofs.Words.{shared_more, shared_all}
use Rattle.base_nodeset.proofs.write_intersection.Goals as goal

pub loop-i-preserved : goal.loop-i-preserved
loop-i-preserved c = shared_more _ _ c.loop-i.invariant (omega arith)

pub returns : goal.returns
returns c = shared_all _ _ c.loop-i.invariant (omega arith)
