use mathlib.Core.Path.{refl, ◌∙◌}
use mathlib.Core.Bool.{and_assoc}
use Rattle.text_reading.specs.Scan.{is_shape}
use Rattle.text_reading.proofs.Scanning.{contained}
use Rattle.text_reading.proofs.Shape.is_possible.Goals as goal

pub returns : goal.returns
unfolding is_shape
returns c = rw (c.contains.ensures.value ∙ contained 10 c.args.self.now.word.now, and_assoc, and_assoc, and_assoc) refl
