use Rattle.survey_writing.proofs.LineLaws.{RowCounted}
use Rattle.survey_writing.proofs.row_length.Given as goal

abbrev pub invariant-loop-b : goal.invariant-loop-b
invariant-loop-b g l = RowCounted g.F.Form.link_line l.a l.row l.total l.b-index
