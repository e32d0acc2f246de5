use Rattle.survey_reading_lists.proofs.WordWriting.{Some}
use Rattle.survey_reading_lists.proofs.write_word.Given as goal

abbrev pub invariant-loop-left : goal.invariant-loop-left
invariant-loop-left l = Some l.base l.word l.initial.neighbours l.neighbours l.at l.pos l.left

abbrev pub decreases-loop-left : goal.decreases-loop-left
decreases-loop-left l = l.left
