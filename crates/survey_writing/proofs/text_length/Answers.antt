use Prim.Native.Nat.{◌≤◌}
use native.Mathlib.Omega.{arith}
use lib.ListN.{length}
use Rattle.survey_writing.proofs.LineLaws.{own_few, text_none, total_few, text_more, text_done}
use Rattle.survey_writing.proofs.text_length.Goals as goal

pub loop-v-init : goal.loop-v-init
loop-v-init g c = text_none c.args.survey.now.accepted c.first_length-total.ensures

pub row_length-total-requires : goal.row_length-total-requires
row_length-total-requires g c =
    (omega (arith, c.args.survey.now.accepted.size), rw c.own.ensures (own_few c.args.survey.now.accepted c.loop-v-test.true))

pub overflow_add-total : goal.overflow_add-total
overflow_add-total g c =
    let row-few : length c.own.result.now ≤ 32768 = rw c.own.ensures (own_few c.args.survey.now.accepted c.loop-v-test.true) in
    omega (arith, row-few, total_few c.args.survey.now.accepted c.loop-v.invariant)

pub loop-v-preserved : goal.loop-v-preserved
loop-v-preserved g c =
    text_more c.args.survey.now.accepted c.loop-v.invariant c.loop-v-test.true (rw c.own.ensures at c.row_length-total.ensures)

pub returns : goal.returns
returns g c = text_done c.args.survey.now.accepted c.loop-v.invariant c.loop-v-test.false
