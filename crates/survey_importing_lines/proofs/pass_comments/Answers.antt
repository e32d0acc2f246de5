use mathlib.Core.Path.{◌≡◌, sym, ◌∙◌}
use mathlib.Core.Logic.{inl}
use mathlib.Core.Bool.{true}
use native.Mathlib.Omega.{arith}
use Rattle.text_reading.specs.Scan.{has_byte}
use Rattle.text_reading.proofs.Scanning.{has_within}
use Rattle.survey_importing_lines.proofs.PassingLaws.{end_after, comment_passed, no_comment}
use Rattle.survey_importing_lines.proofs.pass_comments.Goals as goal

pub loop-end-smaller : goal.loop-end-smaller
loop-end-smaller c =
    let begun : (has_byte c.args.text.now c.loop-end.next 99 ≡ true) = sym c.has_byte.ensures ∙ c.loop-end-test.true in
    omega (arith, end_after c.line_end-end.ensures (has_within _ _ _ begun) c.if-text-end.false)

pub loop-end-preserved : goal.loop-end-preserved
loop-end-preserved c =
    let begun : (has_byte c.args.text.now c.loop-end.next 99 ≡ true) = sym c.has_byte.ensures ∙ c.loop-end-test.true in
    comment_passed c.line_end-end.ensures begun c.if-text-end.false ∙ c.loop-end.invariant

pub returns : goal.returns
returns c = record {
  same = c.loop-end.invariant;
  next = inl (no_comment _ _ (sym c.has_byte.ensures ∙ c.loop-end-test.false));
}
