use mathlib.Core.Path.{sym}
use native.Mathlib.Omega.{arith}
use Rattle.survey_importing_lines.proofs.EdgeLaws.{added_few, edge_below, progress_none, progress_refused, progress_taken}
use Rattle.survey_importing_lines.proofs.EdgeLaws.{progress_more, progress_done}
use Rattle.survey_importing_lines.proofs.read_edges.Goals as goal

pub loop-init : goal.loop-init
loop-init c = progress_none _ _ _ _ c.requires.1

pub returns-in_err-edge : goal.returns-in_err-edge
returns-in_err-edge c =
    progress_refused c.loop.invariant c.loop-test.true _ _ c.from_residual.ensures.1 (sym c.in_err-edge.ensures)

pub keep_link-kept-requires : goal.keep_link-kept-requires
keep_link-kept-requires c =
    let below = edge_below _ _ (sym c.in_ok-edge.ensures) in
    (omega (arith, below, c.requires.0), omega (arith, below, c.requires.0))

pub overflow_add-kept : goal.overflow_add-kept
overflow_add-kept c =
    let p = c.loop.invariant in
    let kept = c.keep_link-kept.ensures p.done p.held in
    omega (arith, kept.0, added_few p.done c.in_ok-edge.edge.a c.in_ok-edge.edge.b, p.fewer, c.loop-test.true)

pub loop-preserved : goal.loop-preserved
loop-preserved c = progress_taken c.loop.invariant c.loop-test.true _ (sym c.in_ok-edge.ensures) c.keep_link-kept.ensures

pub returns-then-end-text : goal.returns-then-end-text
returns-then-end-text c = progress_more c.loop.invariant c.loop-test.false c.pass_comments-end.ensures c.if-end-text.true

pub returns : goal.returns
returns c = progress_done c.loop.invariant c.loop-test.false c.pass_comments-end.ensures c.if-end-text.false
