-- Bounds on what the nodes gain.
-- Assumes nothing.
use Rattle.std.specs.Prelude.{List, ℕ, ◌≤◌, ◌<◌, get_or}
use Rattle.model.specs.Survey.{Graph}
use Rattle.model.specs.Hubs.{gain}

-- no node gains more of the uncovered nodes U than its bound says
pub record Bounded (n : ℕ) (G : Graph) (U bounds : List ℕ) : Type 0 where
  pub says : (v : ℕ) → v < n → gain G U v ≤ get_or bounds v 0
