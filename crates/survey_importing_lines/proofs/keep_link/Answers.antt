use mathlib.Core.Path.{sym, ◌∙◌}
use Rattle.survey_importing_lines.proofs.EdgeLaws.{keep_none, keep_one}
use Rattle.survey_importing_lines.proofs.keep_link.Goals as goal

pub returns-then-has_link : goal.returns-then-has_link
returns-then-has_link c links held = keep_none held c.requires.0 c.requires.1 (sym c.has_link.ensures ∙ c.if-has_link.true)

pub returns : goal.returns
returns c links held =
    keep_one held c.requires.0 c.requires.1 (sym c.has_link.ensures ∙ c.if-has_link.false) (c.insert_link.ensures links held)
