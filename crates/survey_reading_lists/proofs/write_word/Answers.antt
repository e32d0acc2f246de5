use native.Mathlib.Omega.{arith}
use Rattle.base_nodeset.proofs.Bits.{shifted}
use Rattle.survey_reading_lists.proofs.WordWriting.{some_none, some_all, low, some_here, some_more}
use Rattle.survey_reading_lists.proofs.write_word.Goals as goal

pub loop-left-init : goal.loop-left-init
loop-left-init c = some_none c.requires.1 c.ranges.word.fits

pub bounds-neighbours-pos : goal.bounds-neighbours-pos
bounds-neighbours-pos c = omega (arith, some_here c.loop-left.invariant c.loop-left-test.true)

pub overflow_sub-left : goal.overflow_sub-left
overflow_sub-left c =
    let lowest = low c.loop-left.invariant c.loop-left-test.true in
    rw (shifted _ lowest.below) (lowest.holds)

pub loop-left-preserved : goal.loop-left-preserved
loop-left-preserved c =
    let lowest = low c.loop-left.invariant c.loop-left-test.true in
    rw (shifted _ lowest.below) (some_more c.loop-left.invariant c.loop-left-test.true)

pub returns : goal.returns
returns c = some_all c.loop-left.invariant c.loop-left-test.false
