use mathlib.Core.Path.{sym, ap}
use borrow.Author.Rules.{rules}
use Rattle.text_writing.specs.Writes.{Writes}
use Rattle.desk_answers.specs.Said.{tested_said, test_said}
use Rattle.desk_answers.proofs.SaidLaws.{writes_same}
use Rattle.desk_answers.proofs.say_test.Goals.{in-Ok, in-Err}
use Rattle.desk_answers.proofs.say_test.Goals as goal

pub returns : goal.returns
unfolding test_said tested_said
returns c =
    let said : Writes _ c.match-test.writer
    (test_said c.args.n c.args.t c.args.starts.now c.args.neighbours.now) =
    elim c.match-test.branch [
      | in-Ok w ↦ writes_same w.writer-is (ap (tested_said c.args.t) (sym w.in-Ok.ensures.result_value)) w.write_verdict.ensures.wrote
      | in-Err w ↦ writes_same w.writer-is (ap (tested_said c.args.t) (sym w.in-Err.ensures.result_value)) w.write_threshold_refused.ensures.wrote
    ] in
    search rules
