use mathlib.Core.Path.{refl, sym, ap, ◌∙◌}
use native.Mathlib.Omega.{arith}
use Rattle.model.specs.Reading.{AfterReading}
use Rattle.model.specs.Dimacs.{ImportRight}
use Rattle.base_answer_codes.specs.Code.{size_field, size_in}
use Rattle.base_answer_codes.proofs.Decoding.{passed_on}
use Rattle.archive.proofs.Fits.{import_fits}
use Rattle.archive.proofs.puxerdau_import.Goals as goal

pub code-requires : goal.code-requires
code-requires c =
    let answer = ap (λ (x : AfterReading). x.answer) c.import_survey.ensures.neighbours_after in
    λ s e. omega (arith, import_fits _ _ _ (sym answer ∙ e))

pub returns-clause-import_right : goal.returns-clause-import_right
returns-clause-import_right c =
    (passed_on size_field size_in (λ (x : AfterReading). x.answer)
    (λ o. record { answer = o; starts = c.import_survey.new.starts; neighbours = c.import_survey.new.neighbours })
    (ImportRight _) (λ o. refl) c.code.ensures c.import_survey.ensures.neighbours_after c.import_survey.ensures.import_right).1.1
