use Prim.Native.Nat.{◌+◌, ◌*◌}
use native.Mathlib.Omega.{arith}
use lib.ListN.{length}
use Rattle.model.specs.Basics.{bytes}
use Rattle.desk_sentences.specs.Sentences.{walk_line}
use Rattle.desk_sentences.proofs.Saying.{room_behind, writes_behind}
use Rattle.desk_sentences.proofs.write_walk.Goals as goal

pub write_nodes-requires : goal.write_nodes-requires
write_nodes-requires c =
    let word = c.text.ensures in
    omega (arith, room_behind 4 (omega (arith, word.wrote.ends)) word (6 * length c.args.nodes.now + 1) (omega (arith, c.requires)))

pub returns-clause-wrote : goal.returns-clause-wrote
unfolding walk_line bytes
returns-clause-wrote c =
    let word = c.text.ensures in
    let nodes = c.write_nodes.ensures in
    writes_behind 4 (omega (arith, word.wrote.ends)) word (6 * length c.args.nodes.now + 1)
    (omega (arith, nodes.upper_bound)) (omega (arith, c.requires)) nodes.wrote
