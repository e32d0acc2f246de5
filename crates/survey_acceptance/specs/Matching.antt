-- One row of a survey, and a cursor for each node: the place in the node's row behind those of its smaller neighbours whose rows have been
-- passed.
-- Assumes nothing.
use Rattle.std.specs.Prelude.{◌≡◌, Bool, ◌&&◌, List, ◌∷◌, ℕ, ◌+◌, eqb, ltb, get_or}
use Rattle.model.specs.Basics.{has, all}
use Rattle.std.specs.Prelude.{if◌then◌else◌}
use Rattle.model.specs.Survey.{ascending}

-- v stands at x's cursor
unfoldable pub stands : List ℕ → ℕ → ℕ → List ℕ → Bool
stands neighbours v x cursors = eqb (get_or neighbours (get_or cursors x 0) 0) v

-- the nodes of a row ascend from v on and lie below n; each one's cursor is before the last start, and v stands there
unfoldable pub row_fits : (neighbours : List ℕ) (last n v : ℕ) (row cursors : List ℕ) → Bool
row_fits neighbours last n v row cursors =
    ascending (v ∷ row) && all (λ x. ltb x n && ltb (get_or cursors x 0) last && stands neighbours v x cursors) row

-- the cursors of a row's nodes have moved on by one, and no others have
abbrev pub Moved : (row cursors cursors' : List ℕ) → Type 0
Moved row cursors cursors' = (x : ℕ) → get_or cursors' x 0 ≡ (if has x row then get_or cursors x 0 + 1 else get_or cursors x 0)
