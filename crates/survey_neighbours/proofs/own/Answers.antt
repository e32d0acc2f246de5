use Prim.Native.Nat.{◌+◌}
use native.Mathlib.Omega.{arith}
use Rattle.survey_neighbours.proofs.RowLaws.{start_within}
use Rattle.survey_neighbours.proofs.own.Goals as goal

pub slice_bounds-result-end : goal.slice_bounds-result-end
slice_bounds-result-end c = start_within _ _ _ c.requires.0 (_ + 1) (omega arith)
