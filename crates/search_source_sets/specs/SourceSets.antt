-- Sets of sources as rows of 16 lanes of 16 bits.
-- Assumes nothing.
use Rattle.std.specs.Prelude.{◌≡◌, Bool, not, ◌&&◌, List, [], ℕ, ◌/◌, ◌%◌, ◌<◌, T, get_or}
use Rattle.model.specs.Graph.{Edges}
use Rattle.base_nodeset.specs.NodeSet.{bit}

-- the sources of one row: source j is bit j / 16 of lane j % 16
unfoldable pub in_row : List ℕ → ℕ → Bool
in_row lanes j = bit (get_or lanes (j % 16) 0) (j / 16)

-- the sources of node v, by the rows of all nodes
unfoldable pub reached : List (List ℕ) → Edges
reached rows v j = in_row (get_or rows v []) j

-- every bit that some lane has is among the bits found
abbrev pub Covers : List ℕ → ℕ → Type 0
Covers lanes found = (j : ℕ) → T (in_row lanes j) → T (bit found (j / 16))

-- what another row has is taken out of a row
pub record RowLeft (other row row' : List ℕ) (found : ℕ) : Type 0 where
  pub new : (j : ℕ) → j < 256 → in_row row' j ≡ (in_row row j && not (in_row other j))
  pub bits : Covers row' found
