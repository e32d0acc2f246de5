use Rattle.model.proofs.Loops.{gather_next, gather_end}
use Rattle.text_writing.proofs.Writing.{remains_all, remains_fits, remains_more, remains_none}
use Rattle.listing_lines.proofs.Texts.{whole_row, pairs_rows}
use Rattle.listing_lines.proofs.write_pairs.Goals as goal

pub loop-a-init : goal.loop-a-init
loop-a-init c = rw (← pairs_rows _ _ _ _) (remains_all c.requires)

pub write_row-requires-clause-room : goal.write_row-requires-clause-room
write_row-requires-clause-room c =
    let row = whole_row c.args.tables.now.n c.args.tables.now.full.now c.args.tables.now.low.now c.args.tables.now.report.now in
    remains_fits (row c.loop-a.a) _ (rw (gather_next row _ _ c.loop-a-test.true) at c.loop-a.invariant)

pub loop-a-preserved : goal.loop-a-preserved
loop-a-preserved c =
    let row = whole_row c.args.tables.now.n c.args.tables.now.full.now c.args.tables.now.low.now c.args.tables.now.report.now in
    remains_more (rw (gather_next row _ _ c.loop-a-test.true) at c.loop-a.invariant) c.write_row.ensures

pub returns : goal.returns
returns c = remains_none (rw (gather_end _ _ _ c.loop-a-test.false) at c.loop-a.invariant)
