-- Where each node's own neighbours stand.
-- Assumes nothing.
use mathlib.Core.Path.{◌≡◌}
use mathlib.Core.List.{List}
use Prim.Native.Nat.{ℕ, ◌+◌, ◌-◌, ◌≤◌, ◌<◌}
use native.Mathlib.Omega.{arith}
use lib.ListN.{length, get_or, length-take, length-drop}
use Rattle.model.specs.Survey.{Accepted, neighbours_of}
use Rattle.model.proofs.SurveyLists.{start_last}
use Rattle.survey_neighbours.specs.Rows.{Rows}

module _ (n : ℕ) (starts neighbours : List ℕ) (r : Rows n starts neighbours) where
  -- no start is past the end of the list
  pub start_within : (v : ℕ) → v ≤ n → get_or starts v 0 ≤ length neighbours
  start_within v h = omega (arith, start_last n starts r.rising v h, r.within)

  -- the number of v's neighbours is the difference of the two starts
  pub own_length : (v : ℕ) → v < n → length (neighbours_of starts neighbours v) ≡ get_or starts (v + 1) 0 - get_or starts v 0
  unfolding neighbours_of
  own_length v h = simp (length-take, length-drop) (omega (arith, r.rising v h, start_within (v + 1) (omega arith)))

-- an accepted survey's rows can be read
pub rows_of : {n : ℕ} {starts neighbours : List ℕ} → Accepted n starts neighbours → Rows n starts neighbours
rows_of a = record { few = a.size; room = a.room; first = a.lists.first; rising = a.lists.rising; within = a.lists.within }
