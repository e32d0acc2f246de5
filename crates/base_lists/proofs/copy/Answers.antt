use native.Mathlib.Omega.{arith}
use Rattle.base_lists.proofs.Written.{wrote_part}
use Rattle.base_lists.proofs.copy.Goals as goal

pub returns : goal.returns
returns g c = rw c.copy_from_slice.ensures.after (wrote_part _ _ _ _ (omega arith) (omega arith))
