use native.Mathlib.Omega.{arith}
use Rattle.table_hubs.proofs.Greedy.{leading_best}
use Rattle.table_hubs.proofs.best_node.Goals as goal

pub returns-clause-value : goal.returns-clause-value
returns-clause-value c = leading_best _ _ c.loop-v.invariant.leading (omega arith)
