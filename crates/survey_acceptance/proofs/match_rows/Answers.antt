use mathlib.Core.Path.{◌≡◌, refl, sym, ◌∙◌}
use mathlib.Core.Bool.{true}
use Prim.Native.Nat.{◌+◌}
use native.Mathlib.Omega.{arith}
use Rattle.survey_neighbours.proofs.RowLaws.{start_within}
use Rattle.survey_acceptance.proofs.Fitting.{row_facts, row_fails}
use Rattle.survey_acceptance.proofs.Cursors.{upto_none, upto_all, at_cursor, survey_fits, upto_next}
use Rattle.survey_acceptance.proofs.SurveyTest.{holds, fails}
use Rattle.survey_acceptance.proofs.match_rows.Goals.{then-end-at-via-then-end-at, then-end-at-via-else-end-at+then-not-match_row}
use Rattle.survey_acceptance.proofs.match_rows.Goals as goal

pub loop-v-init : goal.loop-v-init
loop-v-init c = (refl, upto_none c.requires.rows.0 c.requires.n_in_bounds.1)

pub slice_bounds-match_row-end : goal.slice_bounds-match_row-end
slice_bounds-match_row-end c = start_within _ _ _ c.requires.rows.0 (_ + 1) (omega arith)

pub returns-then-end-at : goal.returns-then-end-at
returns-then-end-at c = elim c.then-end-at.branch [
  | then-end-at-via-then-end-at w ↦
      sym (fails _ _ _ (at_cursor c.requires.rows.0 c.loop-v.invariant.1 c.loop-v-test.true) (λ l. omega arith))
  | then-end-at-via-else-end-at+then-not-match_row w ↦
      sym (fails _ _ _ (survey_fits c.requires.rows.0 c.loop-v.invariant.1 c.loop-v-test.true w.if-end-at.false)
      (row_fails w.match_row.ensures.value w.if-not-match_row.true))
]

pub loop-v-preserved : goal.loop-v-preserved
loop-v-preserved c =
    let good : c.match_row.result ≡ true = c.if-not-match_row.false in (
      c.match_row.auto.cursors ∙ c.loop-v.invariant.0,
      upto_next c.requires.rows.0 c.loop-v.invariant.1 c.loop-v-test.true c.if-end-at.false
          (row_facts c.match_row.ensures.value good) _ (c.match_row.ensures.moved good),
    )

pub returns : goal.returns
returns c =
    sym (holds (upto_all c.requires.rows.0 c.loop-v.invariant.1 (omega arith) c.requires.rows.1 c.requires.rows.2))
