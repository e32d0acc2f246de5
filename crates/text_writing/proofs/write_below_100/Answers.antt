use Prim.Native.Nat.{◌/◌}
use native.Mathlib.Omega.{arith}
use Rattle.model.proofs.Numbers.{length_small, length_more}
use Rattle.text_writing.proofs.Digits.{wrote_small, wrote_more}
use Rattle.text_writing.proofs.write_below_100.Goals as goal

pub write_byte-requires : goal.write_byte-requires
write_byte-requires c = omega (arith, length_small _ c.if-x-lt10.true)

pub returns-then-x-lt10 : goal.returns-then-x-lt10
returns-then-x-lt10 c = wrote_small _ c.if-x-lt10.true c.write_byte.ensures

pub write_byte-i-requires : goal.write_byte-i-requires
write_byte-i-requires c = omega (arith, length_more _ c.if-x-lt10.false)

pub write_byte-requires-2 : goal.write_byte-requires-2
write_byte-requires-2 c = omega (arith, length_more _ c.if-x-lt10.false, length_small (c.args.x / 10) (omega arith))

pub returns : goal.returns
returns c =
    wrote_more _ c.if-x-lt10.false c.requires.1 (wrote_small _ (omega arith) c.write_byte-i.ensures) c.write_byte-2.ensures
