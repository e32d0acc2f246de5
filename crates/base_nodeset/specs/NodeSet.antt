-- Sets of numbers as lists of 64-bit words (bit sets).
-- Assumes nothing.
use Rattle.std.specs.Prelude.{Bool, false, not, ◌&&◌, ◌||◌, List, [], ◌∷◌, ℕ, zero, suc, ◌/◌, ◌%◌, ◌^◌, eqb, get_or}
use Rattle.std.specs.Prelude.{if◌then◌else◌}

-- a set says of each number whether it is in it
abbrev pub Nodes : Type 0
Nodes = ℕ → Bool

-- bit k of the word w
unfoldable pub bit : ℕ → ℕ → Bool
bit w k = eqb (w / 2 ^ k % 2) 1

-- the set that words stand for: v is bit v % 64 of word v / 64
unfoldable pub member : List ℕ → Nodes
member ws v = bit (get_or ws (v / 64) 0) (v % 64)

unfoldable pub empty_set : Nodes
empty_set v = false

-- a set with one member more
unfoldable pub inserted : Nodes → ℕ → Nodes
inserted p v x = eqb x v || p x

unfoldable pub intersection : Nodes → Nodes → Nodes
intersection p q x = p x && q x

unfoldable pub difference : Nodes → Nodes → Nodes
difference p q x = p x && not (q x)

-- the set bits of the k lowest of a word, ascending, where the lowest bit stands for the number u
unfoldable pub members_from : ℕ → ℕ → ℕ → List ℕ
members_from zero u w = []
members_from (suc k) u w = let rest = members_from k (suc u) (w / 2) in if eqb (w % 2) 1 then u ∷ rest else rest
