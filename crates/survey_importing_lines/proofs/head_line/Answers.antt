use mathlib.Core.Path.{ap, ◌∙◌}
use Rattle.model.specs.Answers.{map_answer}
use Rattle.model.specs.Basics.{has}
use Rattle.model.specs.Dimacs.{head_word}
use Rattle.text_reading.specs.Scan.{is_shape}
use Rattle.survey_importing_lines.specs.FileLines.{without_comments, file_answer}
use Rattle.survey_reading_lines.proofs.LinkLaws.{malformed}
use Rattle.survey_importing_lines.proofs.PassingLaws.{line_found}
use Rattle.survey_importing_lines.proofs.EdgeLaws.{limits_uncommented, head_malformed, head_read}
use Rattle.survey_importing_lines.proofs.head_line.Goals as goal

pub returns-in_err-line : goal.returns-in_err-line
unfolding is_shape has
returns-in_err-line c =
    ap (file_answer _) (malformed _ c.from_residual.ensures.1 c.in_err-line.ensures.ok_part c.in_err-line.ensures.value)
    ∙ head_malformed _ _ (line_found c.pass_comments-at.ensures head_word 32 c.in_err-line.ensures.ok_part c.pair_at.ensures)

pub returns : goal.returns
unfolding is_shape has
returns c =
    ap (map_answer without_comments) (c.within_limits.ensures _) ∙ limits_uncommented _ _ _ _ _
    ∙ head_read _ _ (line_found c.pass_comments-at.ensures head_word 32 c.in_ok-line.ensures.ok_part c.pair_at.ensures)
