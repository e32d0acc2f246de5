use mathlib.Core.Path.{sym, ◌∙◌}
use Rattle.base_nodeset.proofs.Matrix.{edge_bit}
use Rattle.survey_reading_lines.proofs.has_link.Goals as goal

pub returns : goal.returns
returns c = c.contains.ensures ∙ sym (edge_bit _ _ _ c.requires.1)
