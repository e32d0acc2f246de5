use Rattle.base_nodeset.specs.NodeSet.{member}
use Rattle.table_hubs.proofs.Sets.{covered_newly}
use Rattle.table_hubs.proofs.cover.Goals as goal

pub returns : goal.returns
returns c = covered_newly _ (member _) c.newly_covered-newly.ensures c.subtract.ensures
