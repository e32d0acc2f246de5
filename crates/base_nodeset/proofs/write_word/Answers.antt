use mathlib.Core.Path.{◌≡◌}
use Prim.Native.Nat.{◌+◌, ◌*◌, ◌%◌, ◌^◌, ◌<◌}
use native.Mathlib.Omega.{arith}
use lib.Count.{count_trailing_zeros}
use lib.ListN.{length}
use Rattle.base_nodeset.proofs.Bits.{shifted}
use Rattle.base_nodeset.proofs.Members.{Lowest}
use Rattle.base_nodeset.proofs.MemberEntries.{word_all, low, low_inside, word_more}
use Rattle.base_nodeset.proofs.write_word.Goals.{In-loop-left}
use Rattle.base_nodeset.proofs.write_word.Goals as goal

-- the lowest bit that is left, and its entry
lowest_left : (c : In-loop-left) → Lowest 64 c.args.base c.loop-left.left
lowest_left c = low c.loop-left.invariant (omega arith)

entry_inside : (c : In-loop-left) → c.args.base + count_trailing_zeros 64 c.loop-left.left < length c.loop-left.list
entry_inside c = low_inside c.loop-left.invariant (omega arith)

one_bit : (c : In-loop-left) → (1 * 2 ^ count_trailing_zeros 64 c.loop-left.left) % 2 ^ 64 ≡ 2 ^ count_trailing_zeros 64 c.loop-left.left
one_bit c = shifted (count_trailing_zeros 64 c.loop-left.left) (lowest_left c).below

pub overflow_add-list : goal.overflow_add-list
overflow_add-list c = omega (arith, entry_inside (goal.at.overflow_add-list c).In-loop-left)

pub offset_bounds-list-base : goal.offset_bounds-list-base
offset_bounds-list-base c = omega (arith, entry_inside (goal.at.offset_bounds-list-base c).In-loop-left)

pub bounds-list-base : goal.bounds-list-base
bounds-list-base c = entry_inside (goal.at.bounds-list-base c).In-loop-left

pub overflow_sub-left : goal.overflow_sub-left
overflow_sub-left c = let at = (goal.at.overflow_sub-left c).In-loop-left in rw (one_bit at) (lowest_left at).holds

pub loop-left-preserved : goal.loop-left-preserved
loop-left-preserved c =
    let at = (goal.at.loop-left-preserved c).In-loop-left in
    rw (one_bit at) (word_more c.loop-left.invariant (omega arith))

pub returns : goal.returns
returns c = word_all c.loop-left.invariant c.loop-left-test.false
