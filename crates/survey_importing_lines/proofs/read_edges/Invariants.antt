use Rattle.survey_importing_lines.proofs.EdgeLaws.{Progress}
use Rattle.survey_importing_lines.proofs.read_edges.Given as goal

abbrev pub invariant-loop : goal.invariant-loop
invariant-loop l = Progress l.n l.m l.text l.at l.bits l.next l.kept l.counter
