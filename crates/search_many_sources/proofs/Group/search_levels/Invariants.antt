use Rattle.search_many_sources.specs.Groups.{nodes, allowed, links}
use Rattle.search_many_sources.proofs.GroupDistances.{Searched}
use Rattle.search_many_sources.proofs.Group.search_levels.Given as goal

abbrev pub invariant-loop-d : goal.invariant-loop-d
invariant-loop-d l = Searched (nodes l.self) l.self.base (allowed l.self) (links l.self) l.initial.table l.near l.table l.d
