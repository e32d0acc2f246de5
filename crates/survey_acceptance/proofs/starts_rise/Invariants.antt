use Rattle.survey_acceptance.proofs.Rest.{Tested}
use Rattle.survey_acceptance.proofs.SurveyTest.{rises, starts_rise}
use Rattle.survey_acceptance.proofs.starts_rise.Given as goal

abbrev pub invariant-loop-v : goal.invariant-loop-v
invariant-loop-v l = Tested (rises l.starts) l.n (starts_rise l.n l.starts) l.good l.v
