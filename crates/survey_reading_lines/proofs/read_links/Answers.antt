use mathlib.Core.Path.{sym}
use native.Mathlib.Omega.{arith}
use Rattle.survey_reading_lines.proofs.LinkLaws.{link_below, progress_none, progress_refused, progress_taken, progress_more, progress_done}
use Rattle.survey_reading_lines.proofs.read_links.Goals as goal

pub loop-init : goal.loop-init
loop-init c = progress_none _ _ _ _ c.requires.1

pub returns-in_err-link : goal.returns-in_err-link
returns-in_err-link c =
    progress_refused c.requires.0 c.loop.invariant c.loop-test.true _ _ c.from_residual.ensures.1 (sym c.in_err-link.ensures)

pub insert_link-requires : goal.insert_link-requires
insert_link-requires c = let below = link_below _ _ _ (sym c.in_ok-link.ensures) in (omega (arith, below, c.requires.0), omega (arith, below, c.requires.0))

pub loop-preserved : goal.loop-preserved
loop-preserved c =
    progress_taken c.requires.0 c.loop.invariant c.loop-test.true _ _ (sym c.in_ok-link.ensures) c.insert_link.ensures

pub returns-then-next-text : goal.returns-then-next-text
returns-then-next-text c = progress_more c.requires.0 c.loop.invariant c.loop-test.false c.if-next-text.true

pub returns : goal.returns
returns c = progress_done c.requires.0 c.loop.invariant c.loop-test.false c.if-next-text.false
