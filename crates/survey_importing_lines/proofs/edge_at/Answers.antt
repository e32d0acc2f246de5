use mathlib.Core.Path.{sym, ap, ◌∙◌}
use Rattle.model.specs.Basics.{has}
use Rattle.model.specs.Dimacs.{edge_word}
use Rattle.text_reading.specs.Scan.{is_shape}
use Rattle.survey_reading_lines.proofs.LinkLaws.{malformed}
use Rattle.survey_importing_lines.specs.FileLines.{file_answer}
use Rattle.survey_importing_lines.proofs.PassingLaws.{line_found}
use Rattle.survey_importing_lines.proofs.EdgeLaws.{near_tests, edge_malformed, edge_far, edge_loop, edge_new}
use Rattle.survey_importing_lines.proofs.edge_at.Goals as goal

pub returns-in_err-a : goal.returns-in_err-a
unfolding is_shape has
returns-in_err-a c =
    ap (file_answer _) (malformed _ c.from_residual.ensures.1 c.in_err-a.ensures.ok_part c.in_err-a.ensures.value)
    ∙ edge_malformed _ (line_found c.pass_comments-start.ensures edge_word 32 c.in_err-a.ensures.ok_part c.pair_at.ensures)

pub returns-then-not-near : goal.returns-then-not-near
unfolding is_shape has
returns-then-not-near c =
    edge_far _ (line_found c.pass_comments-start.ensures edge_word 32 c.in_ok-a.ensures.ok_part c.pair_at.ensures)
    (sym (near_tests _ _ c.new-nodes.ensures.start c.new-nodes.ensures.end c.new-nodes.ensures.exhausted _ _ c.contains.ensures.value c.contains-2.ensures.value) ∙ c.if-not-near.true)

pub returns-then-a-b : goal.returns-then-a-b
unfolding is_shape has
returns-then-a-b c =
    edge_loop _ (line_found c.pass_comments-start.ensures edge_word 32 c.in_ok-a.ensures.ok_part c.pair_at.ensures)
    (sym (near_tests _ _ c.new-nodes.ensures.start c.new-nodes.ensures.end c.new-nodes.ensures.exhausted _ _ c.contains.ensures.value c.contains-2.ensures.value) ∙ c.if-not-near.false)
    c.if-a-b.true

pub returns : goal.returns
unfolding is_shape has
returns c =
    edge_new _ (line_found c.pass_comments-start.ensures edge_word 32 c.in_ok-a.ensures.ok_part c.pair_at.ensures)
    (sym (near_tests _ _ c.new-nodes.ensures.start c.new-nodes.ensures.end c.new-nodes.ensures.exhausted _ _ c.contains.ensures.value c.contains-2.ensures.value) ∙ c.if-not-near.false)
    c.if-a-b.false
