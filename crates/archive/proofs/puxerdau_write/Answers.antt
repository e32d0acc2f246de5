use mathlib.Core.Path.{sym, ap, ◌∙◌}
use native.Mathlib.Omega.{arith}
use Rattle.model.specs.Writing.{AfterWriting}
use Rattle.archive.proofs.Fits.{text_fits}
use Rattle.archive.proofs.puxerdau_write.Goals as goal

pub code-requires : goal.code-requires
code-requires c =
    let answer = ap (λ (x : AfterWriting). x.answer) c.write_survey.ensures.buffer_after in
    λ k e. omega (arith, text_fits _ _ _ _ (sym answer ∙ e))
