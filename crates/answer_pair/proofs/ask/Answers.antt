use Rattle.std.proofs.Common.{arith, sym, ◌∙◌}
use Rattle.std.proofs.lemmas.Grind.{common_steps}
use Rattle.model.specs.Asking.{asking}
use Rattle.model.proofs.Acceptance.{size_bounds}
use Rattle.answer_pair.proofs.PairLaws.{asked_right}
use Rattle.answer_pair.proofs.ask.Goals as goal

pub returns-then-bad_size-clause-ask_right : goal.returns-then-bad_size-clause-ask_right
unfolding asking
returns-then-bad_size-clause-ask_right c =
    let a = c.args in
    asked_right a.n a.full.now a.low.now a.report.now a.a a.b _ (grind (arith, common_steps))

pub new-requires : goal.new-requires
new-requires c = (size_bounds _ (sym c.bad_size.ensures ∙ c.if-bad_size.false)).1

pub returns-in_err-tables-clause-ask_right : goal.returns-in_err-tables-clause-ask_right
unfolding asking
returns-in_err-tables-clause-ask_right c =
    let a = c.args in
    asked_right a.n a.full.now a.low.now a.report.now a.a a.b _ (grind (arith, common_steps))

pub returns-clause-ask_right : goal.returns-clause-ask_right
unfolding asking
returns-clause-ask_right c =
    let a = c.args in
    asked_right a.n a.full.now a.low.now a.report.now a.a a.b _ (grind (arith, common_steps))
