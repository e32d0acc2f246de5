-- What visiting a node does to a search's row and queue.
-- Assumes nothing.
use Rattle.std.specs.Prelude.{List, [], ◌∷◌, ◌++◌, ℕ, ◌+◌, eqb, length, get_or, take, set}
use Rattle.model.specs.Basics.{none, keep}
use Rattle.std.specs.Prelude.{if◌then◌else◌}

-- how many nodes of a row have no distance
unfoldable pub unreached : List ℕ → ℕ
unreached row = length (keep (λ x. eqb x none) row)

-- the row of distances, the nodes that have joined the queue, and how many these are
pub record Progress : Type 0 where
  pub row : List ℕ
  pub queue : List ℕ
  pub tail : ℕ

-- the queue is the front of a list
abbrev pub progress : (row list : List ℕ) (tail : ℕ) → Progress
progress r l t = record { row = r; queue = take t l; tail = t }

-- node w gets the distance d and joins the queue
abbrev pub joined : ℕ → ℕ → Progress → Progress
joined d w p = record { row = set p.row w d; queue = p.queue ++ w ∷ []; tail = p.tail + 1 }

-- it does so only if it has no distance yet
unfoldable pub visited : ℕ → ℕ → Progress → Progress
visited d w p = if eqb (get_or p.row w 0) none then joined d w p else p

-- the nodes of a list are visited in turn
unfoldable pub visited_all : ℕ → List ℕ → Progress → Progress
visited_all d [] p = p
visited_all d (w ∷ ws) p = visited_all d ws (visited d w p)
