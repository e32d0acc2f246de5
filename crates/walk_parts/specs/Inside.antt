-- Where a part of a walk reads the links left.
-- Assumes nothing.
use Rattle.std.specs.Prelude.{List, ℕ, ◌*◌, ◌≤◌, ◌<◌, length}

-- each of the n nodes has an entry in a row of a table (stride 1) or in a column (stride n)
pub record Inside (n : ℕ) (table : List ℕ) (stride : ℕ) : Type 0 where
  pub few : n ≤ 1024
  pub near : stride ≤ 1024
  pub holds : (x : ℕ) → x < n → x * stride < length table
