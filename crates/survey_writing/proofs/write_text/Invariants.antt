use Rattle.text_writing.proofs.Writing.{Remains}
use Rattle.survey_neighbours.specs.SurveyGraph.{graph}
use Rattle.survey_writing.proofs.LineLaws.{rows_from}
use Rattle.survey_writing.proofs.write_text.Given as goal

abbrev pub invariant-loop-v : goal.invariant-loop-v
invariant-loop-v g l =
    let rows = rows_from g.F.Form.link_line l.survey.n (graph l.survey) in
    Remains l.initial.writer l.writer (rows 0) (rows l.v)
