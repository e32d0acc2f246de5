use native.Mathlib.Omega.{arith}
use Rattle.search_source_sets.specs.SourceSets.{reached}
use Rattle.search_many_sources.specs.Groups.{allowed}
use Rattle.search_many_sources.proofs.Steps.{step_idle, step_marked}
use Rattle.search_many_sources.proofs.Group.step.Goals as goal

pub returns-then-found-eq0 : goal.returns-then-found-eq0
unfolding reached
returns-then-found-eq0 c =
    rw c.put_row.ensures
    (step_idle _ (allowed c.args.self.now) _ _ _ _ _ _ _ _ _ (omega arith) c.join_neighbours.ensures c.remove_row-found.ensures _ c.if-found-eq0.true)

pub returns : goal.returns
unfolding reached
returns c =
    rw c.put_row.ensures
    (step_marked _ (allowed c.args.self.now) _ _ _ _ _ _ _ _ _ (omega arith) c.join_neighbours.ensures c.remove_row-found.ensures
    _ c.mark_row.new.row _ c.requires.0 c.args.self.now.begins c.requires.1
    c.end.ensures c.mark_row.auto.row c.mark_row.ensures)
