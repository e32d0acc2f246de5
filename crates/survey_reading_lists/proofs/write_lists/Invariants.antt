use Rattle.survey_reading_lists.specs.MatrixRows.{rows_in}
use Rattle.survey_reading_lists.proofs.ListLaws.{Lists}
use Rattle.survey_reading_lists.proofs.write_lists.Given as goal

abbrev pub invariant-loop-v : goal.invariant-loop-v
invariant-loop-v l = Lists (rows_in l.bits) l.n l.initial.starts l.initial.neighbours l.starts l.neighbours l.pos l.v
