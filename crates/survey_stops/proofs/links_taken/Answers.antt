use mathlib.Core.Path.{sym}
use native.Mathlib.Omega.{arith}
use Rattle.survey_reading_lines.proofs.LinkLaws.{link_below}
use Rattle.survey_stops.proofs.StopLaws.{taking_none, taking_refused, taking_taken, taking_done}
use Rattle.survey_stops.proofs.links_taken.Goals as goal

pub loop-k-init : goal.loop-k-init
loop-k-init c = taking_none _ _ _ _ c.requires.1

pub returns-in_default : goal.returns-in_default
returns-in_default c = taking_refused c.requires.0 c.loop-k.invariant c.loop-k-test.true (sym c.in_default.ensures)

pub insert_link-requires : goal.insert_link-requires
insert_link-requires c =
    let below = link_below _ _ _ (sym c.in-Ok.ensures) in
    (omega (arith, below, c.requires.0), omega (arith, below, c.requires.0))

pub loop-k-preserved : goal.loop-k-preserved
loop-k-preserved c = taking_taken c.requires.0 c.loop-k.invariant c.loop-k-test.true _ _ (sym c.in-Ok.ensures) c.insert_link.ensures

pub returns : goal.returns
returns c = taking_done c.requires.0 c.loop-k.invariant c.loop-k-test.false
