use Rattle.base_lists.proofs.Written.{wrote_one}
use Rattle.text_writing.proofs.write_byte.Goals as goal

pub returns : goal.returns
returns c = wrote_one _ _ _ c.requires
