use native.Mathlib.Omega.{arith}
use Rattle.table_degree_split.proofs.Degrees.{high_none, high_with, high_without}
use Rattle.table_degree_split.proofs.high_nodes.Goals.{then-s-degree, else-s-degree}
use Rattle.table_degree_split.proofs.high_nodes.Goals as goal

pub loop-v-init : goal.loop-v-init
loop-v-init c = high_none c.requires

pub loop-v-preserved : goal.loop-v-preserved
loop-v-preserved c =
    elim c.if-s-degree.branch [
      | then-s-degree w ↦ rw w.words-is (high_with c.loop-v.invariant (omega arith) w.insert.auto.words w.insert.ensures)
      | else-s-degree w ↦ rw w.words-is (high_without c.loop-v.invariant (omega arith))
    ]
