use native.Mathlib.Omega.{arith}
use Rattle.model.specs.Basics.{bytes}
use Rattle.desk_sentences.specs.Sentences.{verdict_lines}
use Rattle.desk_sentences.proofs.Saying.{room_behind, writes_behind}
use Rattle.desk_sentences.proofs.write_verdict.Goals as goal

pub write_counted-requires : goal.write_counted-requires
write_counted-requires c =
    let word = c.write_word.ensures in
    (omega arith, omega arith, room_behind 6 word.upper_bound word.wrote 40 (omega (arith, c.requires)))

pub write_says-requires : goal.write_says-requires
write_says-requires c =
    let word = c.write_word.ensures in
    let count = c.write_counted.ensures in
    let behind = room_behind 6 word.upper_bound word.wrote 110 (omega (arith, c.requires)) in
    room_behind 40 count.upper_bound count.wrote 70 (omega (arith, behind))

pub returns-clause-wrote : goal.returns-clause-wrote
unfolding verdict_lines bytes
returns-clause-wrote c =
    let word = c.write_word.ensures in
    let count = c.write_counted.ensures in
    let says = c.write_says.ensures in
    let behind = room_behind 6 word.upper_bound word.wrote 110 (omega (arith, c.requires)) in
    let end = writes_behind 40 count.upper_bound count.wrote 70 says.upper_bound (omega (arith, behind)) says.wrote in
    writes_behind 6 word.upper_bound word.wrote 110 (omega (arith, count.upper_bound, says.upper_bound)) (omega (arith, c.requires)) end
