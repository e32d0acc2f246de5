use Rattle.survey_acceptance.proofs.Fitting.{Passed}
use Rattle.survey_acceptance.proofs.match_row.Given as goal

abbrev pub invariant-loop-x : goal.invariant-loop-x
invariant-loop-x l = Passed l.neighbours l.last l.n l.v l.row l.initial.cursors l.cursors l.before l.wrong l.x-index
