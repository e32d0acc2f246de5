use native.Mathlib.Omega.{arith}
use Rattle.std.proofs.Common.{rules}
use Rattle.desk_sentences.proofs.Saying.{room_behind, writes_behind}
use Rattle.desk_usage.specs.Usage.{fault_line}
use Rattle.desk_usage.proofs.say_fault.Goals as goal

pub write_usage-requires : goal.write_usage-requires
write_usage-requires c = room_behind 140 c.write_wrong.ensures.upper_bound c.write_wrong.ensures.wrote 60 (omega (arith, c.requires))

pub returns-clause-wrote : goal.returns-clause-wrote
unfolding fault_line
returns-clause-wrote c =
    let wrong = c.write_wrong.ensures in
    let usage = c.write_usage.ensures in
    let both = writes_behind 140 wrong.upper_bound wrong.wrote 60 usage.upper_bound (omega (arith, c.requires)) usage.wrote in
    search rules
