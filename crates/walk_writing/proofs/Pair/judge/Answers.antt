use Rattle.std.specs.Prelude.{◌≡◌, Some, false}
use Rattle.std.proofs.Common.{arith, sym, ◌∙◌}
use Rattle.std.proofs.lemmas.Grind.{common_steps}
use borrow.Author.Tests.{ltb-false}
use Rattle.model.specs.Pair.{bad_pair}
use Rattle.model.proofs.Acceptance.{size_bounds}
use Rattle.walk_writing.proofs.RouteLaws.{ready}
use Rattle.walk_writing.proofs.Pair.judge.Goals as goal

pub short_starts-requires : goal.short_starts-requires
short_starts-requires c = (size_bounds _ (sym c.bad_size.ensures ∙ c.if-bad_size.false)).1

pub new-requires : goal.new-requires
new-requires c = (size_bounds _ (sym c.bad_size.ensures ∙ c.if-bad_size.false)).1

pub survey-requires : goal.survey-requires
survey-requires c =
    let size = size_bounds _ (sym c.bad_size.ensures ∙ c.if-bad_size.false) in
    (size.0, size.1, ltb-false _ _ (sym c.short_starts.ensures ∙ c.if-short_starts.false))

pub invariant_of-result : goal.invariant_of-result
invariant_of-result c =
    let table : c.new.result ≡ Some c.in_ok-tables.tables = grind (arith, common_steps) in
    let list : c.survey.result ≡ Some c.in_ok-survey.survey = grind (arith, common_steps) in
    let inside : bad_pair c.args.n c.args.a c.args.b ≡ false = sym c.bad_pair.ensures ∙ c.if-bad_pair.false in
    record { ready = ready c.in_ok-survey.survey c.in_ok-tables.tables (rw table at c.new.ensures.given) (rw list at c.survey.ensures).1 inside c.in_ok-answer.ensures }
