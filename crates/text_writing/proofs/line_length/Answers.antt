use native.Mathlib.Omega.{arith}
use Rattle.text_writing.proofs.Digits.{digits_few}
use Rattle.text_writing.proofs.Fields.{line_more}
use Rattle.text_writing.proofs.line_length.Goals as goal

pub overflow_add-total-in-loop-x : goal.overflow_add-total-in-loop-x
overflow_add-total-in-loop-x c = omega (arith, digits_few _ (c.type_inv.numbers c.loop-x.x-index).fits)

pub overflow_add-total-in-loop-x-2 : goal.overflow_add-total-in-loop-x-2
overflow_add-total-in-loop-x-2 c = omega (arith, digits_few _ (c.type_inv.numbers c.loop-x.x-index).fits)

pub loop-x-preserved : goal.loop-x-preserved
loop-x-preserved c =
    let few = digits_few _ (c.type_inv.numbers c.loop-x.x-index).fits in
    line_more c.loop-x.invariant c.loop-x-test.true c.digit_count.ensures (omega (arith, few))
