use Rattle.text_reading.proofs.Scanning.{Ahead}
use Rattle.text_reading.proofs.line_end.Given as goal

abbrev pub invariant-loop-i : goal.invariant-loop-i
invariant-loop-i l = Ahead l.text l.at l.i
