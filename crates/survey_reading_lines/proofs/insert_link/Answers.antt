use mathlib.Core.Path.{◌∙◌}
use Rattle.survey_reading_lines.proofs.LinkLaws.{held_more}
use Rattle.survey_reading_lines.proofs.insert_link.Goals as goal

pub returns : goal.returns
returns c links held =
    held_more _ _ _ _ _ c.requires.0 c.requires.1 held (c.insert-2.auto.words ∙ c.insert.auto.words) c.insert.ensures c.insert-2.ensures
