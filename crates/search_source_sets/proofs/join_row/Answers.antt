use native.Mathlib.Omega.{arith}
use Rattle.search_source_sets.proofs.Joining.{joined}
use Rattle.search_source_sets.proofs.join_row.Goals as goal

pub returns : goal.returns
returns c = joined _ _ _ (λ k h. c.loop-i.invariant.done k (omega arith))
