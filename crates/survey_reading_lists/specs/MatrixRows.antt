-- The rows of a matrix of links.
-- Assumes nothing.
use Rattle.std.specs.Prelude.{List, ℕ}
use Rattle.model.specs.Basics.{up_to, keep}
use Rattle.model.specs.Survey.{Graph}
use Rattle.base_nodeset.specs.Matrix.{edges_in}

-- the graph of the matrix: each node's neighbours, ascending
unfoldable pub rows_in : List ℕ → Graph
rows_in ws v = keep (edges_in ws v) (up_to 1024)
