use mathlib.Core.Path.{◌≡◌}
use Prim.Native.Nat.{ℕ, ◌-◌, ◌^◌}
use native.Mathlib.Omega.{arith}
use lib.Bits.{bit_and}
use lib.Count.{count_trailing_zeros}
use Rattle.base_nodeset.proofs.Members.{Lowest, lowest, lowest_cleared}
use Rattle.search_source_sets.proofs.RowMarks.{row_none, row_more, row_all}
use Rattle.search_source_sets.proofs.mark_row.Goals as goal

pub loop-left-init : goal.loop-left-init
loop-left-init c = row_none _ _ _ _ (omega arith) c.requires.row_len_bound c.requires.covers

pub loop-left-preserved : goal.loop-left-preserved
loop-left-preserved c =
    let left : ℕ = c.loop-left.left in
    let low : Lowest 16 0 left = lowest 16 0 left (omega arith) c.loop-left.invariant.small in
    let cleared : bit_and left (left - 1) ≡ left - 2 ^ count_trailing_zeros 16 left = lowest_cleared 16 left (omega arith) c.loop-left.invariant.small in
    rw (cleared)
    (row_more _ _ _ _ _ c.loop-left.invariant (low) _ c.mark_bit.auto.row c.mark_bit.ensures)

pub returns : goal.returns
returns c = row_all _ _ _ _ _ c.loop-left-test.false c.loop-left.invariant
