use Rattle.survey_stops.proofs.StopLaws.{Taking}
use Rattle.survey_stops.proofs.links_taken.Given as goal

abbrev pub invariant-loop-k : goal.invariant-loop-k
invariant-loop-k l = Taking l.n l.m l.text l.at l.bits l.next l.k
