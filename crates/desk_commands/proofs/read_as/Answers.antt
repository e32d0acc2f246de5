use mathlib.Core.Path.{◌∙◌, sym}
use Rattle.desk_commands.specs.Commands.{read_as}
use Rattle.desk_commands.proofs.CommandLaws.{survey_read}
use Rattle.desk_commands.proofs.read_as.Goals as goal

pub returns-in-Survey : goal.returns-in-Survey
returns-in-Survey c =
    rw (c.told-starts, c.told-neighbours, c.most_of-most.ensures) at c.read_within.ensures ∙ sym (survey_read _ _ c.in-Survey.is)

pub returns-in-File : goal.returns-in-File
unfolding read_as
returns-in-File c = rw c.in-File.is (rw (c.told-starts, c.told-neighbours) at c.import_survey.ensures.neighbours_after)
