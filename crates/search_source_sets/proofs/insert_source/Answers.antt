use Rattle.search_source_sets.proofs.Joining.{source_put}
use Rattle.search_source_sets.proofs.insert_source.Goals as goal

pub returns : goal.returns
returns c = source_put _ _ c.told-row c.requires
