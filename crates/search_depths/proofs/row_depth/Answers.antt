use mathlib.Core.Path.{◌∙◌}
use native.Mathlib.Omega.{arith}
use Rattle.search_depths.proofs.Depths.{greatest_next, greatest_end, depth_read}
use Rattle.search_depths.proofs.row_depth.Goals as goal

pub loop-entry-preserved : goal.loop-entry-preserved
loop-entry-preserved c = omega (arith, greatest_next c.args.row.now c.loop-entry.entry-index c.loop-entry-test.true)

pub returns : goal.returns
returns c =
    c.then_some.ensures
    ∙ depth_read c.loop-entry.most _ (omega (arith, greatest_end c.args.row.now c.loop-entry.entry-index c.loop-entry-test.false))
