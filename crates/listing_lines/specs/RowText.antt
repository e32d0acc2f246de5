-- The lines of one node's pairs.
-- Assumes nothing.
use Rattle.std.specs.Prelude.{List, ℕ, ◌-◌}
use Rattle.model.specs.Basics.{from, gather}
use Rattle.model.specs.Pair.{pair}
use Rattle.model.specs.Listing.{pair_line}

-- the line of a pair, from the three tables
abbrev pub answer_text : (n : ℕ) (full low report : List ℕ) (a b : ℕ) → List ℕ
answer_text n full low report a b = pair_line (a, b) (pair n full low report a b)

-- the lines of node a with the nodes from b on
unfoldable pub row_text : (n : ℕ) (full low report : List ℕ) (a b : ℕ) → List ℕ
row_text n full low report a b = gather (λ x. answer_text n full low report a x) (from b (n - b))
