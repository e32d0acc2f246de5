use Rattle.table_report.proofs.Linking.{Linking}
use Rattle.table_report.proofs.set_links.Given as goal

abbrev pub invariant-loop-b : goal.invariant-loop-b
invariant-loop-b l = Linking l.own l.initial.row l.row l.b-index
