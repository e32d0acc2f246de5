use lib.ListN.{length}
use Rattle.base_nodeset.specs.NodeSet.{member, intersection}
use Rattle.base_nodeset.proofs.Words.{Made}
use Rattle.base_nodeset.proofs.write_intersection.Given as goal

abbrev pub invariant-loop-i : goal.invariant-loop-i
invariant-loop-i l = Made (intersection (member l.a) (member l.b)) (length l.a) l.into l.i
