-- The set bits of a word, written one by one.
-- Assumes nothing.
use mathlib.Core.Path.{◌≡◌}
use mathlib.Core.List.{List, [], ◌∷◌, ◌++◌}
use Prim.Native.Nat.{ℕ, ◌+◌, ◌-◌, ◌^◌, ◌≤◌, ◌<◌}
use native.Mathlib.Omega.{arith}
use lib.Count.{count_trailing_zeros}
use lib.ListN.{length, set}
use Rattle.base_lists.specs.Written.{Wrote}
use Rattle.base_lists.proofs.Written.{wrote_one, Left, left_all, left_length, left_fits, left_more, left_none}
use Rattle.base_nodeset.specs.NodeSet.{members_from}
use Rattle.base_nodeset.proofs.Members.{bits_none, Lowest, lowest}

-- some bits of the word are written, and the others are left
pub record Some (base word : ℕ) (x₀ x : List ℕ) (at pos left : ℕ) : Type 0 where
  pub parts : Left x₀ x at pos (members_from 64 base word) (members_from 64 base left)
  pub small : left < 2 ^ 64

pub some_none : {base word : ℕ} {x₀ : List ℕ} {at : ℕ} → at + length (members_from 64 base word) ≤ length x₀ → word < 2 ^ 64
    → Some base word x₀ x₀ at at word
some_none room h = record { parts = left_all room; small = h }

module _ {base word : ℕ} {x₀ x : List ℕ} {at pos left : ℕ} (s : Some base word x₀ x at pos left) where
  pub some_all : left ≡ 0 → Wrote x₀ x at pos (members_from 64 base word)
  some_all e = left_none (rw (e, bits_none) at s.parts)

  pub some_long : length x ≡ length x₀
  some_long = left_length s.parts

  -- the lowest bit that is left, and then the others
  module _ (p : left ≡ 0 → ⊥) where
    abbrev node : ℕ
    node = base + count_trailing_zeros 64 left

    abbrev rest : ℕ
    rest = left - 2 ^ count_trailing_zeros 64 left

    pub low : Lowest 64 base left
    low = lowest 64 base left (omega arith) s.small

    lowest_first : Left x₀ x at pos (members_from 64 base word) (node ∷ [] ++ members_from 64 base rest)
    lowest_first = rw low.first at s.parts

    pub some_here : pos + 1 ≤ length x
    some_here = left_fits (node ∷ []) (members_from 64 base rest) lowest_first

    pub some_more : Some base word x₀ (set x pos node) at (pos + 1) rest
    some_more = record {
      parts = left_more {t = node ∷ []} lowest_first (wrote_one x pos node some_here);
      small = omega (arith, s.small);
    }
