use Rattle.search_many_sources.proofs.Begins.{Beginning}
use Rattle.search_many_sources.specs.Groups.{nodes, allowed}
use Rattle.search_many_sources.proofs.Group.begin_all.Given as goal

abbrev pub invariant-loop-v : goal.invariant-loop-v
invariant-loop-v l = Beginning (nodes l.self) l.self.base (allowed l.self) l.initial.table l.near l.table l.v
