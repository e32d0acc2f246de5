use Rattle.survey_acceptance.proofs.Rest.{tested_none, tested_next, tested_all}
use Rattle.survey_acceptance.proofs.starts_rise.Goals as goal

pub loop-v-init : goal.loop-v-init
loop-v-init c = tested_none

pub loop-v-preserved : goal.loop-v-preserved
loop-v-preserved c = tested_next c.loop-v.invariant c.loop-v-test.true

pub returns : goal.returns
returns c = tested_all c.loop-v.invariant c.loop-v-test.false
