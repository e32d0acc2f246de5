use mathlib.Core.Path.{sym, ◌∙◌}
use native.Mathlib.Omega.{arith}
use borrow.Author.Tests.{ltb-false}
use Rattle.std.proofs.lemmas.Grind.{common_steps}
use Rattle.model.specs.Testing.{testing}
use Rattle.model.proofs.Acceptance.{size_bounds}
use Rattle.answer_two_or_four.proofs.Sources.{test_right}
use Rattle.answer_two_or_four.proofs.test.Goals as goal

pub short_starts-requires : goal.short_starts-requires
short_starts-requires c = (size_bounds _ (sym c.bad_size.ensures ∙ c.if-bad_size.false)).1

pub survey-requires : goal.survey-requires
survey-requires c =
    let bounds = size_bounds _ (sym c.bad_size.ensures ∙ c.if-bad_size.false) in
    (bounds.0, bounds.1, ltb-false _ _ (sym c.short_starts.ensures ∙ c.if-short_starts.false))

pub returns-then-bad_size-clause-test_right : goal.returns-then-bad_size-clause-test_right
unfolding testing
returns-then-bad_size-clause-test_right c =
    test_right c.args.n c.args.t c.args.starts.now c.args.neighbours.now _ (grind (arith, common_steps))

pub returns-then-bad_threshold-clause-test_right : goal.returns-then-bad_threshold-clause-test_right
unfolding testing
returns-then-bad_threshold-clause-test_right c =
    test_right c.args.n c.args.t c.args.starts.now c.args.neighbours.now _ (grind (arith, common_steps))

pub returns-in_err-survey-clause-test_right : goal.returns-in_err-survey-clause-test_right
unfolding testing
returns-in_err-survey-clause-test_right c =
    test_right c.args.n c.args.t c.args.starts.now c.args.neighbours.now _ (grind (arith, common_steps))

pub returns-clause-test_right : goal.returns-clause-test_right
unfolding testing
returns-clause-test_right c =
    test_right c.args.n c.args.t c.args.starts.now c.args.neighbours.now _ (grind (arith, common_steps))
