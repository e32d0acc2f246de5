use Rattle.search_source_sets.proofs.RowMarks.{Marking}
use Rattle.search_source_sets.proofs.mark_block.Given as goal

abbrev pub invariant-loop-i : goal.invariant-loop-i
invariant-loop-i l = Marking l.new l.b l.d l.initial.part l.part l.i
