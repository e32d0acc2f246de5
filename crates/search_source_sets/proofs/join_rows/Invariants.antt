use Rattle.search_source_sets.proofs.Joining.{Gathering}
use Rattle.search_source_sets.proofs.join_rows.Given as goal

abbrev pub invariant-loop-x : goal.invariant-loop-x
invariant-loop-x l = Gathering l.list l.rows l.initial.sum l.sum l.x-index
