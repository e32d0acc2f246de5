-- What is said of two nodes: their answer, or their walk too.
-- Assumes nothing.
use Rattle.std.specs.Prelude.{Bool, List, ℕ}
use Rattle.std.specs.Prelude.{if◌then◌else◌}
use Rattle.model.specs.Survey.{neighbours_of}
use Rattle.model.specs.Threshold.{in_force}
use Rattle.desk_answers.specs.Said.{pair_said, walk_said}

-- by tables that are split by s; a walk is given the threshold t
unfoldable pub asked_by : (walks : Bool) (n t s : ℕ) (starts neighbours : List ℕ) (a b : ℕ) → List ℕ
asked_by walks n t s starts neighbours a b =
    if walks then walk_said n t s starts neighbours a b
    else pair_said n s (neighbours_of starts neighbours) a b

-- by the threshold in force where t is given
unfoldable pub nodes_asked : (walks : Bool) (n t : ℕ) (starts neighbours : List ℕ) (a b : ℕ) → List ℕ
nodes_asked walks n t starts neighbours a b = asked_by walks n t (in_force n t) starts neighbours a b
