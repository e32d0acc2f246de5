use mathlib.Core.Path.{sym, ◌∙◌}
use Rattle.answer_two_or_four.proofs.Sources.{hubs_by_find, low_by_find, below_by_find}
use Rattle.answer_two_or_four.proofs.run_test.Goals as goal

pub test_from-requires : goal.test_from-requires
test_from-requires c = below_by_find _ _ _ (sym c.smallest_low.ensures ∙ c.in-Some.is)

pub returns-in-Some : goal.returns-in-Some
returns-in-Some c = c.test_from.ensures ∙ low_by_find _ _ _ (sym c.smallest_low.ensures ∙ c.in-Some.is) c.args.survey.now.accepted.size

pub returns-in-None : goal.returns-in-None
returns-in-None c = c.test_hubs.ensures ∙ hubs_by_find _ _ _ (sym c.smallest_low.ensures ∙ c.in-None.is)
