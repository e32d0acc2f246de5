use Rattle.model.specs.Tables.{report_entry}
use Rattle.survey_neighbours.specs.SurveyGraph.{graph}
use Rattle.base_lists.proofs.TableRows.{RowsTo}
use Rattle.table_report.proofs.fill_report.Given as goal

abbrev pub invariant-loop-a : goal.invariant-loop-a
invariant-loop-a l = RowsTo l.n (report_entry l.n (graph l.survey) l.full l.low l.hubs) l.initial.report l.report l.a
