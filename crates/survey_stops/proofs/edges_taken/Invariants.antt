use Rattle.survey_stops.proofs.StopLaws.{TakingEdges}
use Rattle.survey_stops.proofs.edges_taken.Given as goal

abbrev pub invariant-loop-k : goal.invariant-loop-k
invariant-loop-k l = TakingEdges l.n l.m l.text l.at l.next l.k
