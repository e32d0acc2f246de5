-- What the two lists must be for each node's own neighbours to be read.
-- Assumes nothing.
use Rattle.std.specs.Prelude.{List, ◌≡◌, ℕ, ◌+◌, ◌≤◌, ◌<◌, length, get_or}

pub record Rows (n : ℕ) (starts neighbours : List ℕ) : Type 0 where
  pub few : n ≤ 1024
  pub room : n + 1 ≤ length starts
  pub first : get_or starts 0 0 ≡ 0
  pub rising : (v : ℕ) → v < n → get_or starts v 0 ≤ get_or starts (v + 1) 0
  pub within : get_or starts n 0 ≤ length neighbours
