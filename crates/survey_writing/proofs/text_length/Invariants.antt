use Rattle.survey_writing.proofs.LineLaws.{TextCounted}
use Rattle.survey_writing.proofs.text_length.Given as goal

abbrev pub invariant-loop-v : goal.invariant-loop-v
invariant-loop-v g l = TextCounted g.F.Form.first_line g.F.Form.link_line l.survey.n l.survey.starts.now l.survey.neighbours.now l.total l.v
