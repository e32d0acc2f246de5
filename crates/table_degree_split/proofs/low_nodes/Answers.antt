use Rattle.table_degree_split.proofs.Degrees.{low_set}
use Rattle.table_degree_split.proofs.low_nodes.Goals as goal

pub returns : goal.returns
returns c = low_set _ _ _ c.insert_below.ensures c.high_nodes.ensures c.subtract.ensures
