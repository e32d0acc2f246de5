use native.Mathlib.Omega.{arith}
use Rattle.survey_acceptance.proofs.Fitting.{passed_none, passed_all, next_fails, passed_next}
use Rattle.survey_acceptance.proofs.match_row.Goals.{then-x-before-via-then-x-before, then-x-before-via-else-x-before+then-n-x}
use Rattle.survey_acceptance.proofs.match_row.Goals as goal

pub loop-x-init : goal.loop-x-init
loop-x-init c = passed_none

pub loop-x-preserved : goal.loop-x-preserved
loop-x-preserved c =
    let entry = rw (c.from-x.ensures) at c.if-last-at.false in
    rw (c.from.ensures, c.from-x.ensures) (passed_next c.loop-x.invariant c.loop-x-test.true c.requires.0 (omega arith) (omega arith) (omega (arith, entry)))

pub returns-clause-value : goal.returns-clause-value
returns-clause-value c = (passed_all c.loop-x.invariant c.loop-x-test.false).0

pub returns-then-x-before-clause-value : goal.returns-then-x-before-clause-value
returns-then-x-before-clause-value c = elim c.then-x-before.branch [
  | then-x-before-via-then-x-before w ↦ (next_fails c.loop-x.invariant c.loop-x-test.true (λ f. omega arith)).0
  | then-x-before-via-else-x-before+then-n-x w ↦ (next_fails c.loop-x.invariant c.loop-x-test.true (λ f. omega arith)).0
]

pub returns-then-last-at-clause-value : goal.returns-then-last-at-clause-value
returns-then-last-at-clause-value c =
    let entry = rw (c.from-x.ensures) at c.if-last-at.true in
    (next_fails c.loop-x.invariant c.loop-x-test.true (λ f. omega (arith, entry))).0
