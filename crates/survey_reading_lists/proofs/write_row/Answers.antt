use native.Mathlib.Omega.{arith}
use Rattle.survey_reading_lists.proofs.ListLaws.{row_none, word_fits, word_more, row_whole}
use Rattle.survey_reading_lists.proofs.write_row.Goals as goal

pub loop-w-init : goal.loop-w-init
loop-w-init c = row_none c.requires.1

pub write_word-pos-requires : goal.write_word-pos-requires
write_word-pos-requires c = (omega arith, word_fits c.loop-w.invariant (omega arith))

pub loop-w-preserved : goal.loop-w-preserved
loop-w-preserved c = word_more c.loop-w.invariant (omega arith) c.write_word-pos.ensures

pub returns : goal.returns
returns c = row_whole c.loop-w.invariant (omega arith)
