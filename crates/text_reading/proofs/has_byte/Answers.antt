use mathlib.Core.Path.{◌∙◌}
use Rattle.text_reading.proofs.Scanning.{byte_got}
use Rattle.text_reading.proofs.has_byte.Goals as goal

pub returns : goal.returns
returns c = c.eq.ensures ∙ byte_got _ _ _ _ c.get.ensures.lookup
