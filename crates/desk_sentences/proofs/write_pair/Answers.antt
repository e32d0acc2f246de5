use native.Mathlib.Omega.{arith}
use Rattle.desk_sentences.specs.Sentences.{pair_lines}
use Rattle.desk_sentences.proofs.Saying.{room_behind, writes_behind}
use Rattle.desk_sentences.proofs.write_pair.Goals as goal

pub write_needed-requires : goal.write_needed-requires
write_needed-requires c = room_behind 150 c.write_report.ensures.upper_bound c.write_report.ensures.wrote 100 (omega (arith, c.requires))

pub returns-clause-wrote : goal.returns-clause-wrote
unfolding pair_lines
returns-clause-wrote c =
    let report = c.write_report.ensures in
    let needed = c.write_needed.ensures in
    writes_behind 150 report.upper_bound report.wrote 100 needed.upper_bound (omega (arith, c.requires)) needed.wrote
