use Rattle.base_nodeset.proofs.Bits.{set_with}
use Rattle.base_nodeset.proofs.insert.Goals as goal

pub returns : goal.returns
returns c = set_with _ _ c.requires
