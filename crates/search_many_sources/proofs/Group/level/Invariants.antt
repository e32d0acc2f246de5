use Rattle.search_many_sources.specs.Groups.{nodes, allowed, links}
use Rattle.search_many_sources.specs.Levels.{reached_by}
use Rattle.search_many_sources.proofs.Steps.{Passing}
use Rattle.search_many_sources.proofs.Group.level.Given as goal

abbrev pub invariant-loop-v : goal.invariant-loop-v
invariant-loop-v l =
    Passing (nodes l.self) (allowed l.self) (links l.self) l.self.base l.d (reached_by l.self.base l.near) l.initial.table l.far l.table l.more l.v
