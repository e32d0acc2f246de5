use native.Mathlib.Omega.{arith}
use Rattle.survey_reading_lists.proofs.ListLaws.{lists_none, lists_more, lists_done}
use Rattle.survey_reading_lists.proofs.ListLaws.{place_small, row_fits}
use Rattle.survey_reading_lists.proofs.write_lists.Goals as goal

pub loop-v-init : goal.loop-v-init
loop-v-init c = lists_none c.requires.n_bound.1 c.requires.bits_in_bounds.0

pub overflow_cast-starts : goal.overflow_cast-starts
overflow_cast-starts c = omega (arith, place_small c.loop-v.invariant)

pub write_row-pos-requires : goal.write_row-pos-requires
write_row-pos-requires c = (omega arith, row_fits c.loop-v.invariant c.loop-v-test.true)

pub loop-v-preserved : goal.loop-v-preserved
loop-v-preserved c = lists_more c.loop-v.invariant c.loop-v-test.true c.write_row-pos.ensures

pub overflow_cast-starts-2 : goal.overflow_cast-starts-2
overflow_cast-starts-2 c = omega (arith, place_small c.loop-v.invariant)

pub returns-clause-starts_after : goal.returns-clause-starts_after
returns-clause-starts_after c = (lists_done c.loop-v.invariant (omega arith)).0

pub returns-clause-neighbours_after : goal.returns-clause-neighbours_after
returns-clause-neighbours_after c = (lists_done c.loop-v.invariant (omega arith)).1
