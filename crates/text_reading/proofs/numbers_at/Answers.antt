use mathlib.Core.Path.{sym, ap, ◌∙◌}
use native.Mathlib.Omega.{arith}
use Rattle.text_reading.specs.Scan.{found_numbers}
use Rattle.text_reading.proofs.Shapes.{number_next, number_missing, all_numbers}
use Rattle.text_reading.proofs.numbers_at.Goals as goal

pub returns-in_err-number : goal.returns-in_err-number
returns-in_err-number c =
    ap (found_numbers _ _) c.from_residual.ensures
    ∙ number_missing _ _ c.requires _ _ _ _ _ c.loop-test.true (sym c.in_err-number.ensures) ∙ c.loop.invariant.1

pub loop-preserved : goal.loop-preserved
loop-preserved c =
    (omega arith, number_next _ _ c.requires _ _ _ _ _ c.loop-test.true _ _ (sym c.in_ok-number.ensures) ∙ c.loop.invariant.1)

pub returns : goal.returns
returns c = all_numbers _ _ c.requires _ _ _ _ _ (omega arith) ∙ c.loop.invariant.1
