use mathlib.Core.Path.{sym, ◌∙◌}
use native.Mathlib.Omega.{arith}
use Rattle.survey_stops.proofs.KeptLaws.{lines_left, end_place}
use Rattle.survey_stops.proofs.KeptLaws.{passing_comment, passing_kept, passing_last, passing_here}
use Rattle.survey_stops.proofs.kept_line.Goals.{then-not-has_byte, else-not-has_byte}
use Rattle.survey_stops.proofs.kept_line.Goals as goal

pub returns-then-text-end : goal.returns-then-text-end
returns-then-text-end c = passing_last c.loop-left.invariant c.line_end-end.ensures c.if-text-end.true

pub loop-left-smaller : goal.loop-left-smaller
loop-left-smaller c = omega (arith, end_place c.loop-left.invariant c.line_end-end.ensures c.if-text-end.false)

pub loop-left-preserved : goal.loop-left-preserved
loop-left-preserved c =
    let inv = c.loop-left.invariant in
    let byte = sym c.has_byte-in-loop-left.ensures in
    elim c.if-not-has_byte.branch [
      | then-not-has_byte w ↦
          let none = w.if-not-has_byte.true in
          let left = lines_left _ _ c.loop-left-test.true (c.has_byte.ensures ∙ byte ∙ none) in
          rw w.left-is (passing_kept inv c.line_end-end.ensures c.if-text-end.false (byte ∙ none) left)
      | else-not-has_byte w ↦
          rw w.left-is (passing_comment inv c.line_end-end.ensures c.if-text-end.false (byte ∙ w.if-not-has_byte.false))
    ]

pub returns : goal.returns
returns c = passing_here c.loop-left.invariant c.has_byte.ensures c.loop-left-test.false
