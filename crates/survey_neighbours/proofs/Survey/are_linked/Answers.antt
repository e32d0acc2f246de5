use mathlib.Core.Bool.{◌||◌}
use mathlib.Core.Path.{◌≡◌, refl, sym, ap, ◌∙◌}
use mathlib.Core.List.{List}
use Prim.Native.Nat.{ℕ}
use lib.Dec.{eqb}
use Rattle.std.proofs.Common.{rules, tests}
use Rattle.std.specs.List.{list_any}
use Rattle.std.proofs.lemmas.Iterator.{YieldsList-from_slice}
use Rattle.std.proofs.lemmas.Iterator.Search.{any_from_yields_List}
use Rattle.std.proofs.lemmas.List.Recursion.{same_from_clauses}
use Rattle.model.specs.Basics.{has}
use Rattle.model.proofs.Acceptance.{linked_own}
use Rattle.survey_neighbours.proofs.Survey.are_linked.Goals as goal

has_any : (v : ℕ) (xs : List ℕ) → list_any (eqb v) xs ≡ has v xs
unfolding has
has_any v = same_from_clauses (list_any (eqb v)) (has v) (λ x r. eqb v x || r) refl (λ _ _. refl) (λ _ _. refl)

pub returns : goal.returns
returns c =
    let row = c.own.result.now in
    let found = any_from_yields_List (eqb c.args.b) _ _ c.any.result c.any.ensures.ran (YieldsList-from_slice row cc) (λ x b q k. search (rules, tests)) in
    found
    ∙ has_any c.args.b row
    ∙ ap (has c.args.b) c.own.ensures
    ∙ sym (linked_own c.args.self.now.n _ c.args.self.now.accepted.lists.graph _ _ c.requires)
