use mathlib.Core.Path.{◌≡◌}
use mathlib.Core.List.{List, append-nil}
use Prim.Native.Nat.{ℕ, ◌+◌, ◌≤◌}
use native.Mathlib.Omega.{arith}
use borrow.Author.Tests.{eq-eqb, ne_eqb}
use lib.ListN.{length, take}
use lib.Seq.{length-take-le}
use Rattle.desk_sentences.proofs.Saying.{room_behind, writes_behind}
use Rattle.desk_answers.specs.Said.{nodes_said, walked_said}
use Rattle.desk_answers.proofs.write_walked.Goals as goal

-- at most 2,048 nodes are written
few : (r : ℕ) (walk : List ℕ) → length walk ≡ 2048 → r + 1 ≤ 2048 → length (take (r + 1) walk) ≤ 2048
few r walk size h = omega (arith, length-take-le (r + 1) walk (omega arith))

pub write_walk-requires : goal.write_walk-requires
write_walk-requires c =
    let pair = c.write_pair.ensures in
    let nodes = few c.args.x.report c.args.walk.now (omega arith) (c.requires.report_in_bounds c.if-x-ne-NONE.true) in
    omega (arith, nodes, room_behind 250 pair.upper_bound pair.wrote 19750 (omega (arith, c.requires.room)))

pub returns-then-x-ne-NONE : goal.returns-then-x-ne-NONE
unfolding walked_said nodes_said
returns-then-x-ne-NONE c =
    let pair = c.write_pair.ensures in
    let walk = c.write_walk.ensures in
    let nodes = few c.args.x.report c.args.walk.now (omega arith) (c.requires.report_in_bounds c.if-x-ne-NONE.true) in
    rw (ne_eqb _ _ c.if-x-ne-NONE.true)
    (writes_behind 250 pair.upper_bound pair.wrote 19750 (omega (arith, nodes, walk.upper_bound)) (omega (arith, c.requires.room)) walk.wrote)

pub returns-else-x-ne-NONE : goal.returns-else-x-ne-NONE
unfolding walked_said nodes_said
returns-else-x-ne-NONE c = rw (eq-eqb _ _ c.if-x-ne-NONE.false, append-nil _) c.write_pair.ensures.wrote
