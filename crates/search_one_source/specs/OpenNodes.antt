-- What a search leaves in a row.
-- Assumes nothing.
use Rattle.std.specs.Prelude.{Bool, List, map, ℕ, eqb, get_or}
use Rattle.model.specs.Basics.{none, up_to}
use Rattle.std.specs.Prelude.{if◌then◌else◌}
use Rattle.model.specs.Graph.{Edges, between, fewest}

-- the nodes that a search may enter: those whose entry is none
abbrev pub is_open : List ℕ → ℕ → Bool
is_open row v = eqb (get_or row v 0) none

-- each of them gets the fewest links from s through such nodes; the entries of the others stay
unfoldable pub searched : (n : ℕ) (E : Edges) (s : ℕ) → List ℕ → List ℕ
searched n E s row = map (λ v. if is_open row v then fewest (between (is_open row) E) n s v else get_or row v 0) (up_to n)
