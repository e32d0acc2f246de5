use Rattle.survey_writing.proofs.LineLaws.{row_added, row_same, row_done}
use Rattle.survey_writing.proofs.row_length.Goals.{then-a-b, else-a-b}
use Rattle.survey_writing.proofs.row_length.Goals as goal

pub loop-b-preserved : goal.loop-b-preserved
loop-b-preserved g c = elim c.if-a-b.branch [
  | then-a-b w ↦ rw (w.total-is) (row_added c.loop-b.invariant c.loop-b-test.true c.from-b.ensures w.if-a-b.true w.link_length-total.ensures)
  | else-a-b w ↦ rw (w.total-is) (row_same c.loop-b.invariant c.loop-b-test.true c.from-b.ensures w.if-a-b.false)
]

pub returns : goal.returns
returns g c = row_done c.loop-b.invariant c.loop-b-test.false
