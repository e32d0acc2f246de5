use Rattle.std.specs.Prelude.{◌≡◌, None, Some, Err}
use Rattle.std.proofs.Common.{arith}
use Rattle.std.proofs.lemmas.Grind.{common_steps}
use Rattle.model.specs.declared.Refusal.TheVariants.{NotAttained}
use Rattle.walk_routes.proofs.FitLaws.{missed, found, none_refused, part_short, part_fits}
use Rattle.walk_routes.proofs.write_low.Goals as goal

pub returns-in_err-count : goal.returns-in_err-count
returns-in_err-count c =
    let no : c.low_part-part.result ≡ None = grind (arith, common_steps) in
    let e : c.from_residual.result ≡ Err NotAttained = grind (arith, common_steps) in
    rw e (none_refused c.requires.blank _ (missed c.low_part-part.ensures no))

pub returns-then-walk-count : goal.returns-then-walk-count
returns-then-walk-count c =
    let some : c.low_part-part.result ≡ Some c.in_ok-count.count = grind (arith, common_steps) in
    part_short c.requires.blank _ (found c.low_part-part.ensures some) c.if-walk-count.true

pub returns : goal.returns
returns c =
    let some : c.low_part-part.result ≡ Some c.in_ok-count.count = grind (arith, common_steps) in
    part_fits c.requires.blank _ (found c.low_part-part.ensures some) c.if-walk-count.false c.copy_reversed.ensures
