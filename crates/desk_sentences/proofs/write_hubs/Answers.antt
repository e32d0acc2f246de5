use mathlib.Core.Path.{sym, ◌∙◌}
use Prim.Native.Nat.{◌+◌, ◌*◌}
use native.Mathlib.Omega.{arith}
use borrow.Author.Tests.{eqb-true, eqb-false}
use lib.ListN.{length}
use Rattle.model.specs.Basics.{bytes}
use Rattle.desk_sentences.proofs.Saying.{room_behind, writes_behind, hubs_none, hubs_some}
use Rattle.desk_sentences.proofs.write_hubs.Goals as goal

pub returns-then-is_empty-clause-wrote : goal.returns-then-is_empty-clause-wrote
unfolding bytes
returns-then-is_empty-clause-wrote c =
    rw (hubs_none _ (eqb-true _ _ (sym c.is_empty.ensures ∙ c.if-is_empty.true))) c.text.ensures

pub write_nodes-requires : goal.write_nodes-requires
write_nodes-requires c =
    let count = c.write_counted.ensures in
    omega (arith, room_behind 40 count.upper_bound count.wrote (6 * length c.args.hubs.now + 1) (omega (arith, c.requires)))

pub returns-clause-wrote : goal.returns-clause-wrote
unfolding bytes
returns-clause-wrote c =
    let count = c.write_counted.ensures in
    let nodes = c.write_nodes.ensures in
    rw (hubs_some _ (eqb-false _ _ (sym c.is_empty.ensures ∙ c.if-is_empty.false)))
    (writes_behind 40 count.upper_bound count.wrote (6 * length c.args.hubs.now + 1)
    (omega (arith, nodes.upper_bound)) (omega (arith, c.requires)) nodes.wrote)
