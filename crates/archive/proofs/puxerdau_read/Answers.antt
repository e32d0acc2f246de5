use mathlib.Core.Path.{refl, sym, ap, ◌∙◌}
use native.Mathlib.Omega.{arith}
use Rattle.model.specs.Reading.{AfterReading}
use Rattle.model.specs.Demand.{ReadRight}
use Rattle.base_answer_codes.specs.Code.{size_field, size_in}
use Rattle.base_answer_codes.proofs.Decoding.{passed_on}
use Rattle.archive.proofs.Fits.{read_fits}
use Rattle.archive.proofs.puxerdau_read.Goals as goal

pub code-requires : goal.code-requires
code-requires c =
    let answer = ap (λ (x : AfterReading). x.answer) c.read_survey.ensures.neighbours_after in
    λ s e. omega (arith, read_fits _ _ _ (sym answer ∙ e))

pub returns-clause-read_right : goal.returns-clause-read_right
returns-clause-read_right c =
    (passed_on size_field size_in (λ (x : AfterReading). x.answer)
    (λ o. record { answer = o; starts = c.read_survey.new.starts; neighbours = c.read_survey.new.neighbours })
    (ReadRight _) (λ o. refl) c.code.ensures c.read_survey.ensures.neighbours_after c.read_survey.ensures.read_right).1.1
