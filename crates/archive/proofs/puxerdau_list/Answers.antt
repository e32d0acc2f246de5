use mathlib.Core.Path.{sym, ap, ◌∙◌}
use native.Mathlib.Omega.{arith}
use Rattle.model.specs.Listing.{listing}
use Rattle.model.specs.Writing.{AfterWriting}
use Rattle.archive.proofs.Fits.{written_length}
use Rattle.archive.proofs.puxerdau_list.Goals as goal

pub code-requires : goal.code-requires
code-requires c =
    let answer = ap (λ (x : AfterWriting). x.answer) c.write_listing.ensures.buffer_after in
    λ k e. omega (arith, written_length (listing _) _ (sym answer ∙ e))
