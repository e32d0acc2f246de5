-- The walk list before a walk is written.
-- Assumes nothing.
use Rattle.std.specs.Prelude.{◌≡◌, List, ℕ, length, replicate}
use Rattle.model.specs.Basics.{none}

-- all its entries are none
abbrev pub IsBlank : List ℕ → Type 0
IsBlank walk = walk ≡ replicate (length walk) none
