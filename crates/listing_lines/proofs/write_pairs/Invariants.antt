use Rattle.model.specs.Listing.{pair_lines}
use Rattle.text_writing.proofs.Writing.{Remains}
use Rattle.listing_lines.proofs.Texts.{rows_from}
use Rattle.listing_lines.proofs.write_pairs.Given as goal

abbrev pub invariant-loop-a : goal.invariant-loop-a
invariant-loop-a l =
    let all = pair_lines l.tables.n l.tables.full.now l.tables.low.now l.tables.report.now in
    Remains l.initial.writer l.writer all (rows_from l.tables.n l.tables.full.now l.tables.low.now l.tables.report.now l.a)
