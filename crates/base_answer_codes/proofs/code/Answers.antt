use mathlib.Core.Path.{refl, ap}
use Rattle.model.specs.Answers.{outcome}
use Rattle.base_answer_codes.proofs.Decoding.{refusal_code, answer_code}
use Rattle.base_answer_codes.proofs.code.Goals as goal

pub returns-in-Ok : goal.returns-in-Ok
returns-in-Ok g c =
    rw c.field.ensures.value
    (answer_code _ _ c.in-Ok.value (rw c.field.ensures.value at c.field.ensures.back) (ap outcome c.in-Ok.is) refl)

pub returns-in-Err : goal.returns-in-Err
returns-in-Err g c = refusal_code _ _ c.in-Err.refusal (ap outcome c.in-Err.is) c.refusal_number.ensures
