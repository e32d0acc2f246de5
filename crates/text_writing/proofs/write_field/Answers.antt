use native.Mathlib.Omega.{arith}
use Rattle.base_lists.proofs.Written.{wrote_then}
use Rattle.text_writing.proofs.write_field.Goals as goal

pub returns : goal.returns
returns c = wrote_then (omega arith) c.write_byte-i.ensures c.write_number.ensures
