use Rattle.base_lists.proofs.Written.{left_all, left_more, left_none}
use Rattle.text_writing.proofs.Fields.{fields_next, fields_end}
use Rattle.text_writing.proofs.write_fields.Goals as goal

pub loop-x-init : goal.loop-x-init
loop-x-init c = left_all c.requires

pub loop-x-preserved : goal.loop-x-preserved
loop-x-preserved c =
    let next = c.loop-x.invariant in
    left_more (rw (fields_next _ _ _ c.loop-x-test.true) at next) c.write_field-pos.ensures

pub returns : goal.returns
returns c =
    let last = c.loop-x.invariant in
    left_none (left_more (rw (fields_end _ _ _ c.loop-x-test.false) at last) c.write_byte.ensures)
