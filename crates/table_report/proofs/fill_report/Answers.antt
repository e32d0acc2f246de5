use native.Mathlib.Omega.{arith}
use Rattle.base_lists.proofs.TableRows.{rows_none, rows_part, rows_done}
use Rattle.table_report.proofs.fill_report.Goals as goal

pub loop-a-init : goal.loop-a-init
loop-a-init c = rows_none c.requires.by_index.1

pub loop-a-preserved : goal.loop-a-preserved
loop-a-preserved c = rows_part c.loop-a.invariant c.loop-a-test.true c.report_row.auto.row c.report_row.ensures

pub returns : goal.returns
returns c = rows_done c.loop-a.invariant (omega arith)
