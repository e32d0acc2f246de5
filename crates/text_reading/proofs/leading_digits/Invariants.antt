use Rattle.text_reading.proofs.Runs.{Read}
use Rattle.text_reading.proofs.leading_digits.Given as goal

abbrev pub invariant-loop-count : goal.invariant-loop-count
invariant-loop-count l = Read l.part l.value l.count
