use Rattle.survey_reading_lines.proofs.LinkLaws.{Progress}
use Rattle.survey_reading_lines.proofs.read_links.Given as goal

abbrev pub invariant-loop : goal.invariant-loop
invariant-loop l = Progress l.n l.m l.text l.at l.bits l.next l.counter
