use mathlib.Core.Path.{sym, ◌∙◌}
use Rattle.model.proofs.Tests.{true_T}
use Rattle.model.proofs.Acceptance.{survey_facts}
use Rattle.survey_acceptance.proofs.survey.Goals as goal

pub invariant_of-result : goal.invariant_of-result
invariant_of-result c = record {
  accepted = record {
    some_node = c.requires.0;
    size = c.requires.1;
    room = c.requires.2;
    lists = survey_facts _ _ _ (true_T _ (sym c.is_survey.ensures ∙ c.if-not-is_survey.false));
  };
}
