use mathlib.Core.Path.{sym, ap, ◌∙◌}
use mathlib.Core.Logic.{inl, inr}
use Rattle.model.specs.Basics.{has}
use Rattle.model.specs.SurveyText.{line}
use Rattle.text_reading.specs.Scan.{is_shape, found}
use Rattle.survey_reading_lines.specs.LinesRead.{line_answer}
use Rattle.survey_reading_lines.proofs.LinkLaws.{malformed, link_end, link_malformed, link_far, link_loop, link_again, link_new}
use Rattle.survey_reading_lines.proofs.link_at.Goals as goal
use Rattle.survey_reading_lines.proofs.link_at.Goals.{then-n-a-via-then-n-a, then-n-a-via-else-n-a+then-n-b}

pub returns-then-text-at : goal.returns-then-text-at
returns-then-text-at c = link_end _ _ _ _ c.if-text-at.true

pub returns-in_err-a : goal.returns-in_err-a
unfolding line is_shape has
returns-in_err-a c =
    ap (line_answer _) (malformed _ c.from_residual.ensures.1 c.in_err-a.ensures.ok_part c.in_err-a.ensures.value)
    ∙ link_malformed _ _ _ _ c.if-text-at.false (sym c.pair_at.ensures ∙ ap (found _) c.in_err-a.ensures.ok_part)

pub returns-then-n-a : goal.returns-then-n-a
unfolding line is_shape has
returns-then-n-a c =
    link_far _ _ _ _ c.if-text-at.false (sym c.pair_at.ensures ∙ ap (found _) c.in_ok-a.ensures.ok_part)
    (elim c.then-n-a.branch [ then-n-a-via-then-n-a w ↦ inl w.if-n-a.true | then-n-a-via-else-n-a+then-n-b w ↦ inr w.if-n-b.true ])

pub returns-then-a-b : goal.returns-then-a-b
unfolding line is_shape has
returns-then-a-b c =
    link_loop _ _ _ _ c.if-text-at.false (sym c.pair_at.ensures ∙ ap (found _) c.in_ok-a.ensures.ok_part) (c.if-n-a.false, c.if-n-b.false) c.if-a-b.true

pub returns-then-has_link : goal.returns-then-has_link
unfolding line is_shape has
returns-then-has_link c =
    link_again _ _ _ _ c.if-text-at.false (sym c.pair_at.ensures ∙ ap (found _) c.in_ok-a.ensures.ok_part) (c.if-n-a.false, c.if-n-b.false) c.if-a-b.false
    (sym c.if-has_link.ensures)

pub returns : goal.returns
unfolding line is_shape has
returns c =
    link_new _ _ _ _ c.if-text-at.false (sym c.pair_at.ensures ∙ ap (found _) c.in_ok-a.ensures.ok_part) (c.if-n-a.false, c.if-n-b.false) c.if-a-b.false
    (sym c.if-has_link.ensures)
