use Rattle.table_hubs.proofs.Sets.{Inserted}
use Rattle.table_hubs.proofs.closed_set.Given as goal

abbrev pub invariant-loop-u : goal.invariant-loop-u
invariant-loop-u l = Inserted l.row l.initial.set l.set l.u-index
