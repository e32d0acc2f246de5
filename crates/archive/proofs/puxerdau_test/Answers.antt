use mathlib.Core.Path.{sym, ◌∙◌}
use native.Mathlib.Omega.{arith}
use Rattle.archive.proofs.Fits.{searches_fit}
use Rattle.archive.proofs.puxerdau_test.Goals as goal

pub code-requires : goal.code-requires
code-requires c = λ t e. omega (arith, searches_fit _ _ _ _ (sym c.test.ensures.result_value ∙ e))
