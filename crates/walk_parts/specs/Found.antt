-- A part of a walk that may be found, and the nodes that it leaves.
-- Assumes nothing.
use Rattle.std.specs.Prelude.{◌≡◌, Bool, true, false, Option, None, Some, IfSome, List, reverse, ℕ, ◌≤◌, ◌<◌, length}
use Rattle.std.proofs.Math.Option.{Option as Part, none as missing, some}
use Rattle.model.specs.Basics.{over}

-- whether there is a part
abbrev pub is_found : Part (List ℕ) → Bool
is_found missing = false
is_found (some l) = true

-- a part leaves its nodes turned round, each at the place that is the number of links left from it
abbrev pub Leaves : Part (List ℕ) → (old new : List ℕ) → Type 0
Leaves missing old new = Unit {0}
Leaves (some l) old new = new ≡ over (reverse l) old

-- the count of a part's nodes
abbrev pub count_of : Part (List ℕ) → Option ℕ
count_of missing = None
count_of (some l) = Some (length l)

-- the part is counted and written; it has one node or more and at most n
pub record PartIs (n : ℕ) (o : Part (List ℕ)) (count : Option ℕ) (old new : List ℕ) : Type 0 where
  pub counted : count ≡ count_of o
  pub some_few : IfSome count (λ k. (0 < k) × (k ≤ n))
  pub left : Leaves o old new
