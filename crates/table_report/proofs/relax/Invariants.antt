use Rattle.table_report.proofs.Relaxing.{Relaxing}
use Rattle.table_report.proofs.relax.Given as goal

abbrev pub invariant-loop-b : goal.invariant-loop-b
invariant-loop-b l = Relaxing l.x l.other l.initial.row l.row l.b
