use mathlib.Core.Path.{◌∙◌}
use Rattle.text_reading.proofs.Scanning.{word_at}
use Rattle.text_reading.proofs.has_word.Goals as goal

pub returns : goal.returns
returns c = c.starts_with.ensures.value ∙ word_at _ _ c.args.at c.min.ensures
