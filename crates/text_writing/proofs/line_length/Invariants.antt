use Rattle.text_writing.proofs.Fields.{LineCounted}
use Rattle.text_writing.proofs.line_length.Given as goal

abbrev pub invariant-loop-x : goal.invariant-loop-x
invariant-loop-x l = LineCounted l.word l.numbers l.total l.x-index
