use Rattle.model.proofs.Loops.{gather_next, gather_end}
use Rattle.text_writing.proofs.Writing.{remains_all, remains_fits, remains_more, remains_none}
use Rattle.listing_lines.specs.RowText.{answer_text, row_text}
use Rattle.listing_lines.proofs.write_row.Goals as goal

pub loop-b-init : goal.loop-b-init
loop-b-init c = remains_all c.requires.room

pub write_answer-requires-clause-room : goal.write_answer-requires-clause-room
unfolding row_text
write_answer-requires-clause-room c =
    let answer = answer_text c.args.tables.now.n c.args.tables.now.full.now c.args.tables.now.low.now c.args.tables.now.report.now c.args.a in
    remains_fits (answer c.loop-b.b) _ (rw (gather_next answer _ _ c.loop-b-test.true) at c.loop-b.invariant)

pub loop-b-preserved : goal.loop-b-preserved
unfolding row_text
loop-b-preserved c =
    let answer = answer_text c.args.tables.now.n c.args.tables.now.full.now c.args.tables.now.low.now c.args.tables.now.report.now c.args.a in
    remains_more (rw (gather_next answer _ _ c.loop-b-test.true) at c.loop-b.invariant) c.write_answer.ensures

pub returns : goal.returns
unfolding row_text
returns c = remains_none (rw (gather_end _ _ _ c.loop-b-test.false) at c.loop-b.invariant)
