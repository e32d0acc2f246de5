-- What is said is within the buffer.
use native.Mathlib.Omega.{arith}
use Rattle.base_lists.proofs.Written.{front_fits}
use Rattle.puxerdau.proofs.answer_in.Goals as goal

pub shared_ref_as_front-write_all : goal.shared_ref_as_front-write_all
shared_ref_as_front-write_all g c = omega (arith, front_fits c.say-r.ensures)
