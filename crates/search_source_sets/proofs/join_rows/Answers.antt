use Rattle.model.proofs.Ascending.{get_d_has}
use Rattle.search_source_sets.proofs.Joining.{gathering_more, gathering_all}
use Rattle.search_source_sets.specs.SourceSets.{reached}
use Rattle.search_source_sets.proofs.join_rows.Goals as goal

pub bounds-rows-x : goal.bounds-rows-x
bounds-rows-x c = c.requires _ (get_d_has c.args.list.now c.loop-x.x-index c.loop-x-test.true)

pub loop-x-preserved : goal.loop-x-preserved
unfolding reached
loop-x-preserved c = gathering_more _ _ _ _ _ c.loop-x.invariant _ c.loop-x-test.true c.join_row.ensures

pub returns : goal.returns
returns c = gathering_all _ _ _ _ _ c.loop-x.invariant c.loop-x-test.false
