use Rattle.std.proofs.Common.{arith}
use Rattle.model.proofs.Numbers.{length_small, length_more}
use Rattle.text_writing.proofs.Digits.{wrote_small, wrote_more}
use Rattle.text_writing.proofs.+write_digits.Goals as goal

pub write_byte-requires : goal.write_byte-requires
write_byte-requires t c = omega (arith, length_small _ c.if-x-lt10.true)

pub returns-then-x-lt10 : goal.returns-then-x-lt10
returns-then-x-lt10 t c = wrote_small _ c.if-x-lt10.true c.write_byte.ensures

pub write_digits-i-requires : goal.write_digits-i-requires
write_digits-i-requires t c = (omega arith, omega (arith, length_more _ c.if-x-lt10.false))

pub write_byte-requires-2 : goal.write_byte-requires-2
write_byte-requires-2 t c = omega (arith, length_more _ c.if-x-lt10.false)

pub returns : goal.returns
returns t c = wrote_more _ c.if-x-lt10.false c.requires c.write_digits-i.ensures c.write_byte-2.ensures
