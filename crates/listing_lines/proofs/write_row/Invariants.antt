use Prim.Native.Nat.{◌+◌}
use Rattle.text_writing.proofs.Writing.{Remains}
use Rattle.listing_lines.specs.RowText.{row_text}
use Rattle.listing_lines.proofs.write_row.Given as goal

abbrev pub invariant-loop-b : goal.invariant-loop-b
invariant-loop-b l =
    let row = row_text l.tables.n l.tables.full.now l.tables.low.now l.tables.report.now l.a in
    Remains l.initial.writer l.writer (row (l.a + 1)) (row l.b)
