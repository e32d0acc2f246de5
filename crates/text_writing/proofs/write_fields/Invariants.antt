use lib.ListN.{drop}
use Rattle.base_lists.proofs.Written.{Left}
use Rattle.text_writing.proofs.Fields.{fields_of}
use Rattle.text_writing.proofs.write_fields.Given as goal

abbrev pub invariant-loop-x : goal.invariant-loop-x
invariant-loop-x l = Left l.initial.buf l.buf l.at l.pos (fields_of l.separator l.numbers) (fields_of l.separator (drop l.x-index l.numbers))
