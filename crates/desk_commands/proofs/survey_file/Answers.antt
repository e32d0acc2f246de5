use mathlib.Core.Path.{◌∙◌}
use native.Mathlib.Omega.{arith}
use Rattle.model.proofs.Dimacs.{exporting_answers}
use Rattle.model.proofs.Sizes.{file_few}
use Rattle.desk_commands.proofs.CommandLaws.{never_refused, written_whole}
use Rattle.desk_commands.proofs.survey_file.Goals as goal

pub unwrap-requires : goal.unwrap-requires
unwrap-requires c =
    let accepted = c.args.survey.now.accepted in
    never_refused _ _ _ _ (c.export_survey.ensures.buffer_after ∙ exporting_answers _ _ _ accepted _ (omega (arith, file_few _ _ _ accepted)))

pub returns : goal.returns
returns c =
    let accepted = c.args.survey.now.accepted in
    written_whole _ _ _ (c.export_survey.ensures.buffer_after ∙ exporting_answers _ _ _ accepted _ (omega (arith, file_few _ _ _ accepted)))
    c.unwrap.ensures
