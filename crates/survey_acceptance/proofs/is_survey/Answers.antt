use mathlib.Core.Path.{sym, ◌∙◌}
use Rattle.survey_acceptance.proofs.SurveyTest.{not_rising, not_even, not_few, not_within, rows}
use Rattle.survey_acceptance.proofs.is_survey.Goals.{then-last-ne0-via-then-last-ne0, then-last-ne0-via-else-last-ne0+then-last-gt16384}
use Rattle.survey_acceptance.proofs.is_survey.Goals.{then-last-ne0-via-else-last-ne0+else-last-gt16384+then-neighbours-last}
use Rattle.survey_acceptance.proofs.is_survey.Goals as goal

pub returns-then-not-starts_rise : goal.returns-then-not-starts_rise
returns-then-not-starts_rise c = sym (not_rising _ _ _ (sym c.starts_rise.ensures ∙ c.if-not-starts_rise.true))

pub matched-requires : goal.matched-requires
matched-requires c =
    let rise = sym c.starts_rise.ensures ∙ c.if-not-starts_rise.false in
    (rows c.requires.1 c.requires.2 rise c.if-neighbours-last.false, c.if-last-ne0.false, c.if-last-gt16384.false)

pub returns-then-last-ne0 : goal.returns-then-last-ne0
returns-then-last-ne0 c = elim c.then-last-ne0.branch [
  | then-last-ne0-via-then-last-ne0 w ↦ sym (not_even _ _ _ w.if-last-ne0.true)
  | then-last-ne0-via-else-last-ne0+then-last-gt16384 w ↦ sym (not_few _ _ _ w.if-last-gt16384.true)
  | then-last-ne0-via-else-last-ne0+else-last-gt16384+then-neighbours-last w ↦ sym (not_within _ _ _ w.if-neighbours-last.true)
]
