use mathlib.Core.Path.{sym}
use Rattle.survey_stops.proofs.StopLaws.{edges_refused, edges_on, edges_done}
use Rattle.survey_stops.proofs.edges_taken.Goals as goal

pub returns-in_default : goal.returns-in_default
returns-in_default c = edges_refused c.loop-k.invariant c.loop-k-test.true (sym c.in_default.ensures)

pub loop-k-preserved : goal.loop-k-preserved
loop-k-preserved c = edges_on c.loop-k.invariant c.loop-k-test.true _ (sym c.in-Ok.ensures)

pub returns : goal.returns
returns c = edges_done c.loop-k.invariant c.loop-k-test.false
