use mathlib.Core.Path.{sym, ap, ◌∙◌}
use Rattle.model.specs.Basics.{has}
use Rattle.model.specs.SurveyText.{line}
use Rattle.text_reading.specs.Scan.{is_shape, found}
use Rattle.survey_reading_lines.specs.LinesRead.{line_answer}
use Rattle.survey_reading_lines.proofs.FirstLaws.{counts_malformed, counts_read}
use Rattle.survey_reading_lines.proofs.LinkLaws.{malformed}
use Rattle.survey_reading_lines.proofs.first_line.Goals as goal

pub returns-in_err-line : goal.returns-in_err-line
unfolding line is_shape has
returns-in_err-line c =
    ap (line_answer _) (malformed _ c.from_residual.ensures.1 c.in_err-line.ensures.ok_part c.in_err-line.ensures.value)
    ∙ counts_malformed _ _ _ _ (sym c.pair_at.ensures ∙ ap (found _) c.in_err-line.ensures.ok_part)

pub returns : goal.returns
unfolding line is_shape has
returns c = c.within_limits.ensures _ ∙ counts_read _ _ _ _ (sym c.pair_at.ensures ∙ ap (found _) c.in_ok-line.ensures.ok_part)
