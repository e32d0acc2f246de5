use Rattle.std.specs.Prelude.{◌≡◌, None, Some, Err}
use Rattle.std.proofs.Common.{arith}
use Rattle.std.proofs.lemmas.Grind.{common_steps}
use Rattle.model.specs.declared.Refusal.TheVariants.{NotAttained}
use Rattle.walk_routes.proofs.FitLaws.{missed, found, first_missing, second_missing, none_refused, both_short, both_fit}
use Rattle.walk_routes.proofs.write_through.Goals as goal

pub returns-in_err-i : goal.returns-in_err-i
returns-in_err-i c =
    let no : c.hub_part-first.result ≡ None = grind (arith, common_steps) in
    let e : c.from_residual.result ≡ Err NotAttained = grind (arith, common_steps) in
    rw e (none_refused c.requires.blank _ (first_missing _ (missed c.hub_part-first.ensures no)))

pub returns-in_err-j : goal.returns-in_err-j
returns-in_err-j c =
    let no : c.hub_part-second.result ≡ None = grind (arith, common_steps) in
    let e : c.from_residual-in_err-j.result ≡ Err NotAttained = grind (arith, common_steps) in
    rw e (none_refused c.requires.blank _ (second_missing _ (missed c.hub_part-second.ensures no)))

pub returns-then-walk-i : goal.returns-then-walk-i
returns-then-walk-i c =
    let first : c.hub_part-first.result ≡ Some c.in_ok-i.i = grind (arith, common_steps) in
    let second : c.hub_part-second.result ≡ Some c.in_ok-j.j = grind (arith, common_steps) in
    both_short c.requires.blank _ (found c.hub_part-first.ensures first) (found c.hub_part-second.ensures second) c.if-walk-i.true

pub returns : goal.returns
returns c =
    let first : c.hub_part-first.result ≡ Some c.in_ok-i.i = grind (arith, common_steps) in
    let second : c.hub_part-second.result ≡ Some c.in_ok-j.j = grind (arith, common_steps) in
    both_fit c.requires.blank _ (found c.hub_part-first.ensures first) (found c.hub_part-second.ensures second) c.if-walk-i.false
    c.copy_reversed.ensures c.copy.ensures
