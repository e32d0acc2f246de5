-- Links as a matrix of words.
-- Assumes nothing.
use Rattle.std.specs.Prelude.{◌&&◌, List, ℕ, ◌+◌, ◌*◌, ltb}
use Rattle.model.specs.Graph.{Edges}
use Rattle.base_nodeset.specs.NodeSet.{member}

-- the links that a matrix of 1,024 x 1,024 bits holds, row by row: a-b is number 1024 * a + b
unfoldable pub edges_in : List ℕ → Edges
edges_in rows a b = ltb b 1024 && member rows (1024 * a + b)
