use Rattle.text_reading.proofs.Scanning.{ahead_none, ahead_next}
use Rattle.text_reading.proofs.line_end.Goals as goal

pub loop-i-init : goal.loop-i-init
loop-i-init c = ahead_none _ _

pub loop-i-preserved : goal.loop-i-preserved
loop-i-preserved c = ahead_next c.loop-i.invariant c.loop-i-test.true c.if-text-i-eq10.false
