use Rattle.table_report.proofs.Reports.{RowTo}
use Rattle.table_report.proofs.report_row.Given as goal

abbrev pub invariant-loop-hub : goal.invariant-loop-hub
invariant-loop-hub l = RowTo l.survey.n l.full l.low l.hubs l.a l.row l.hub-index
