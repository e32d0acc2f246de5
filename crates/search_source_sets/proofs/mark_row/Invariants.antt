use Rattle.search_source_sets.proofs.RowMarks.{RowMarking}
use Rattle.search_source_sets.proofs.mark_row.Given as goal

abbrev pub invariant-loop-left : goal.invariant-loop-left
invariant-loop-left l = RowMarking l.new l.d l.initial.row l.row l.left

abbrev pub decreases-loop-left : goal.decreases-loop-left
decreases-loop-left l = l.left
