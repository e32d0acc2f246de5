-- How deep searches go.
-- Assumes nothing.
use mathlib.Core.List.{List, foldr}
use Rattle.std.specs.Prelude.{if◌then◌else◌, Option, None, Some, ℕ, max, eqb}
use Rattle.model.specs.Basics.{none}

-- the greatest number of a list
unfoldable pub greatest : List ℕ → ℕ
greatest l = foldr max 0 l

-- the depth x, which the rules write as none where a search misses a node
abbrev pub depth_of : ℕ → Option ℕ
depth_of x = if eqb x none then None else Some x
