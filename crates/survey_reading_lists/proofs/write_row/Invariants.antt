use Rattle.survey_reading_lists.proofs.ListLaws.{Row}
use Rattle.survey_reading_lists.proofs.write_row.Given as goal

abbrev pub invariant-loop-w : goal.invariant-loop-w
invariant-loop-w l = Row l.bits l.v l.initial.neighbours l.neighbours l.at l.pos l.w
