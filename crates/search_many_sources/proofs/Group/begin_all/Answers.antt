use native.Mathlib.Omega.{arith}
use Rattle.search_many_sources.proofs.Begins.{beginning_none, beginning_more, beginning_all}
use Rattle.search_many_sources.proofs.Group.begin_all.Goals as goal

pub loop-v-init : goal.loop-v-init
loop-v-init c = beginning_none _ _ _ _ _ c.args.self.now.begins c.requires.near_none c.requires.table_len

pub loop-v-preserved : goal.loop-v-preserved
loop-v-preserved c =
    beginning_more _ _ _ _ _ _ _ c.loop-v.invariant _ _ (omega arith) c.begin.auto.table c.begin.ensures

pub returns : goal.returns
returns c = beginning_all _ _ _ _ _ _ _ c.loop-v.invariant (omega arith) c.requires.unfilled
