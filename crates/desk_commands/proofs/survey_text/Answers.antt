use mathlib.Core.Path.{◌∙◌}
use native.Mathlib.Omega.{arith}
use Rattle.model.proofs.ReadBack.{writing_answers}
use Rattle.model.proofs.Sizes.{text_few}
use Rattle.desk_commands.proofs.CommandLaws.{never_refused, written_whole}
use Rattle.desk_commands.proofs.survey_text.Goals as goal

pub unwrap-requires : goal.unwrap-requires
unwrap-requires c =
    let accepted = c.args.survey.now.accepted in
    never_refused _ _ _ _ (c.write_survey.ensures.buffer_after ∙ writing_answers _ _ _ accepted _ (omega (arith, text_few _ _ _ accepted)))

pub returns : goal.returns
returns c =
    let accepted = c.args.survey.now.accepted in
    written_whole _ _ _ (c.write_survey.ensures.buffer_after ∙ writing_answers _ _ _ accepted _ (omega (arith, text_few _ _ _ accepted)))
    c.unwrap.ensures
