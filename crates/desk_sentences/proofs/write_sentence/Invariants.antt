use lib.ListN.{drop}
use Rattle.text_writing.proofs.Writing.{Remains}
use Rattle.desk_sentences.specs.Sentences.{sentence}
use Rattle.desk_sentences.proofs.write_sentence.Given as goal

-- what remains is the sentence of the bytes and the numbers that are left
abbrev pub invariant-loop-c : goal.invariant-loop-c
invariant-loop-c l = Remains l.initial.writer l.writer (sentence l.form l.numbers) (sentence (drop l.c-index l.form) l.left)
