use Rattle.std.proofs.Common.{rules}
use native.Mathlib.Omega.{arith}
use lib.ListN.{get_or}
use Rattle.search_source_sets.proofs.RowMarks.{selected, marking_more}
use Rattle.search_source_sets.proofs.mark_block.Goals as goal

pub loop-i-preserved : goal.loop-i-preserved
loop-i-preserved c =
    marking_more _ _ _ _ _ _ c.loop-i.invariant _ (omega arith)
    (selected (get_or c.args.new.now c.loop-i.i 0) c.args.b (get_or c.loop-i.part c.loop-i.i 0) c.args.d
    (search rules) (omega arith))
