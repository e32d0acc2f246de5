use Rattle.std.specs.Prelude.{◌≡◌, true, false}
use Rattle.std.proofs.Common.{rules, arith}
use Rattle.std.proofs.lemmas.Iterator.{first_from_Range}
use Rattle.model.specs.Pair.{attaining}
use Rattle.answer_pair.proofs.HubLaws.{attains, first_found}
use Rattle.answer_pair.proofs.Tables.attaining_hub.Goals as goal

pub returns : goal.returns
unfolding attaining
returns c =
    let p = attains c.args.self.now.n c.args.self.now.full.now c.args.a c.args.b c.args.r in
    let first = first_from_Range _ _ _ _ (λ h. p h ≡ true) (λ h. p h ≡ false) c.find.ensures.ran (λ h f e. search rules) (λ h f e. search rules) in
    first_found p _ _ (omega arith) first
