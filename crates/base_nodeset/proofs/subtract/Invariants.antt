use Rattle.base_nodeset.proofs.Words.{Removed}
use Rattle.base_nodeset.proofs.subtract.Given as goal

abbrev pub invariant-loop-i : goal.invariant-loop-i
invariant-loop-i l = Removed l.b l.initial.a l.a l.i
