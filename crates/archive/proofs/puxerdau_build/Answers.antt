use native.Mathlib.Omega.{arith}
use Rattle.archive.proofs.Fits.{hubs_fit}
use Rattle.archive.proofs.puxerdau_build.Goals as goal

pub code-requires : goal.code-requires
code-requires c = λ k e. omega (arith, hubs_fit (c.build.ensures.build_right k e))
