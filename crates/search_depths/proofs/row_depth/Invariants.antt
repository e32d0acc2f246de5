use mathlib.Core.Path.{◌≡◌}
use Prim.Native.Nat.{max}
use lib.ListN.{drop}
use Rattle.search_depths.specs.Depth.{greatest}
use Rattle.search_depths.proofs.row_depth.Given as goal

abbrev pub invariant-loop-entry : goal.invariant-loop-entry
invariant-loop-entry l = max l.most (greatest (drop l.entry-index l.row)) ≡ greatest l.row
