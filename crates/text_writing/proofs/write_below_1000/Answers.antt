use native.Mathlib.Omega.{arith}
use Rattle.model.proofs.Numbers.{length_more}
use Rattle.text_writing.proofs.Digits.{wrote_more}
use Rattle.text_writing.proofs.write_below_1000.Goals as goal

pub write_below_100-i-requires : goal.write_below_100-i-requires
write_below_100-i-requires c = (omega arith, omega (arith, length_more c.args.x (omega arith)))

pub write_byte-requires : goal.write_byte-requires
write_byte-requires c = omega (arith, length_more c.args.x (omega arith))

pub returns : goal.returns
returns c = wrote_more _ (omega arith) c.requires.1 c.write_below_100-i.ensures c.write_byte.ensures
