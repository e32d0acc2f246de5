use mathlib.Core.Path.{sym, ◌∙◌}
use native.Mathlib.Omega.{arith}
use Rattle.archive.proofs.Fits.{threshold_fits}
use Rattle.archive.proofs.puxerdau_threshold.Goals as goal

pub code-requires : goal.code-requires
code-requires c = λ k e. omega (arith, threshold_fits _ (sym c.threshold_of.ensures ∙ e))
