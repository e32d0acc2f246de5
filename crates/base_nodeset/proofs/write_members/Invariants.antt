use Rattle.base_nodeset.proofs.MemberEntries.{SetWriting}
use Rattle.base_nodeset.proofs.write_members.Given as goal

abbrev pub invariant-loop-i : goal.invariant-loop-i
invariant-loop-i l = SetWriting l.value l.words l.initial.list l.list l.i
