use mathlib.Core.Path.{refl}
use Rattle.text_writing.proofs.Fields.{fields_of}
use Rattle.text_writing.proofs.Writing.{room_rest, writes_append}
use Rattle.text_writing.proofs.Writer.line.Goals as goal

pub write_fields-self-requires : goal.write_fields-self-requires
write_fields-self-requires c = room_rest c.args.word.now (fields_of c.args.separator c.args.numbers.now) c.requires c.text.ensures

pub returns : goal.returns
returns c = writes_append c.args.word.now (fields_of c.args.separator c.args.numbers.now) c.requires c.text.ensures
    (record { wrote = c.write_fields-self.ensures; same = refl })
