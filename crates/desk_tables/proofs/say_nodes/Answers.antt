use mathlib.Core.Path.{sym}
use Rattle.desk_tables.specs.Nodes.{nodes_asked}
use Rattle.desk_tables.proofs.say_nodes.Goals as goal

pub returns : goal.returns
unfolding nodes_asked
returns g c = rw (sym c.in_force-s.ensures) c.say_in.ensures
