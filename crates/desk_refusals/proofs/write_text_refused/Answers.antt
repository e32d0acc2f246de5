use native.Mathlib.Omega.{arith}
use Rattle.model.specs.Basics.{bytes}
use Rattle.desk_sentences.proofs.Saying.{room_behind, writes_behind}
use Rattle.desk_refusals.specs.Reasons.{text_refused}
use Rattle.desk_refusals.proofs.write_text_refused.Goals as goal

pub write_reason-requires : goal.write_reason-requires
write_reason-requires c =
    let place = c.write_sentence.ensures in
    room_behind 61 (omega (arith, place.upper_bound)) place.wrote 130 (omega (arith, c.requires))

pub returns-clause-wrote : goal.returns-clause-wrote
unfolding text_refused bytes
returns-clause-wrote c =
    let place = rw c.refusal_number-number.ensures at c.write_sentence.ensures.wrote in
    let reason = c.write_reason.ensures in
    writes_behind 61 (omega (arith, c.write_sentence.ensures.upper_bound)) place 130 reason.upper_bound (omega (arith, c.requires)) reason.wrote
