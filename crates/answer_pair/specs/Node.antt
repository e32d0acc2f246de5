-- A node that may be missing.
-- Assumes nothing.
use Rattle.std.specs.Prelude.{if◌then◌else◌, Option, None, Some, ℕ, eqb}
use Rattle.model.specs.Basics.{none}

-- x, which the rules write as none where there is no node
abbrev pub node : ℕ → Option ℕ
node x = if eqb x none then None else Some x
