use native.Mathlib.Omega.{arith}
use Rattle.base_lists.proofs.TableRows.{rows_none, rows_next, rows_done}
use Rattle.table_distances.proofs.low_rows.Goals as goal

pub loop-a-init : goal.loop-a-init
loop-a-init c = rows_none c.requires

pub loop-a-preserved : goal.loop-a-preserved
loop-a-preserved c = rows_next c.loop-a.invariant c.loop-a-test.true c.low_row.ensures

pub returns : goal.returns
returns c = rows_done c.loop-a.invariant (omega arith)
