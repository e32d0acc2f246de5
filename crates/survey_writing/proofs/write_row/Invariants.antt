use lib.ListN.{drop}
use Rattle.text_writing.proofs.Writing.{Remains}
use Rattle.survey_writing.specs.LinkLines.{lines_of}
use Rattle.survey_writing.proofs.write_row.Given as goal

abbrev pub invariant-loop-b : goal.invariant-loop-b
invariant-loop-b g l =
    let lines = lines_of g.F.Form.link_line l.a in
    Remains l.initial.writer l.writer (lines l.row) (lines (drop l.b-index l.row))
