use Rattle.std.proofs.Common.{rules, tests, ◌≡◌, ◌∙◌, sym}
use Rattle.std.proofs.lemmas.Iterator.{YieldsList-from_slice}
use Rattle.std.proofs.lemmas.Iterator.Search.{position_from_yields_List}
use Rattle.std.specs.List.{position}
use Rattle.base_nodeset.proofs.Words.{some_bit, smallest_none, smallest_some}
use Rattle.base_nodeset.proofs.smallest.Goals.{After-position}
use Rattle.base_nodeset.proofs.smallest.Goals as goal

at : (c : After-position) → c.position.result ≡ position some_bit c.args.words.now
at c =
    position_from_yields_List some_bit _ _ c.position.result c.position.ensures.ran (YieldsList-from_slice c.args.words.now cc)
    (λ x b q k. search (rules, tests))

pub returns-in_err-i : goal.returns-in_err-i
returns-in_err-i c =
    let none = sym (at (goal.at.returns-in_err-i c).After-position) ∙ c.in_err-i.was in
    c.from_residual.ensures ∙ sym (smallest_none _ none)

pub returns : goal.returns
returns c =
    let some = sym (at (goal.at.returns c).After-position) ∙ c.in_ok-i.was in
    sym (smallest_some _ _ (c.type_inv.words _).fits some)
