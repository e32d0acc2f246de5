use native.Mathlib.Omega.{arith}
use Rattle.model.proofs.Numbers.{length_small, length_more}
use Rattle.text_writing.proofs.Digits.{digits_few}
use Rattle.text_writing.proofs.digit_count.Goals as goal

pub overflow_add-n : goal.overflow_add-n
overflow_add-n c = omega (arith, digits_few _ c.ranges.x.fits)

pub loop-left-preserved : goal.loop-left-preserved
loop-left-preserved c = omega (arith, length_more _ c.loop-left-test.true)

pub returns : goal.returns
returns c = omega (arith, length_small _ c.loop-left-test.false)
