use mathlib.Core.Path.{sym}
use native.Mathlib.Omega.{arith}
use Rattle.desk_commands.specs.Commands.{on_outcome, read_said}
use Rattle.desk_commands.proofs.CommandLaws.{read_accepted}
use Rattle.desk_commands.proofs.say_text.Goals as goal

pub invariant_of-survey : goal.invariant_of-survey
invariant_of-survey c = record { accepted = (read_accepted _ _ _ _ _ c.in-Ok.ensures).0 }

pub say_survey-requires : goal.say_survey-requires
say_survey-requires c =
    let read = rw c.source_of-source.ensures at c.in-Ok.ensures in
    ((read_accepted _ _ _ _ _ read).1, omega arith)

pub returns-in-Ok : goal.returns-in-Ok
unfolding read_said on_outcome
returns-in-Ok c =
    let read = rw c.source_of-source.ensures at c.in-Ok.ensures in
    rw (sym read) c.say_survey.ensures

pub returns-in-Err : goal.returns-in-Err
unfolding read_said on_outcome
returns-in-Err c =
    let read = rw c.source_of-source.ensures at c.in-Err.ensures in
    rw (sym read, sym c.source_of-source.ensures) c.refuse_text.ensures
