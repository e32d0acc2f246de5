use Rattle.base_nodeset.proofs.MemberEntries.{WordWriting}
use Rattle.base_nodeset.proofs.write_word.Given as goal

abbrev pub invariant-loop-left : goal.invariant-loop-left
invariant-loop-left l = WordWriting l.value l.base l.word l.initial.list l.list l.left

abbrev pub decreases-loop-left : goal.decreases-loop-left
decreases-loop-left l = l.left
