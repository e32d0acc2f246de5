use mathlib.Core.Path.{◌≡◌}
use lib.ListN.{length}
use Rattle.survey_acceptance.proofs.Cursors.{Upto}
use Rattle.survey_acceptance.proofs.match_rows.Given as goal

abbrev pub invariant-loop-v : goal.invariant-loop-v
invariant-loop-v l = (length l.cursors ≡ length l.initial.cursors) × Upto l.n l.starts l.neighbours l.v l.cursors
