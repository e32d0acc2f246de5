use mathlib.Core.List.{[], ◌∷◌}
use native.Mathlib.Omega.{arith}
use lib.ListN.{get_or}
use Rattle.text_writing.proofs.Writing.{remains_all, remains_fits, remains_more, remains_none}
use Rattle.model.specs.Numbers.{digits}
use Rattle.desk_sentences.proofs.Saying.{node_next, nodes_done, nodes_few}
use Rattle.desk_sentences.proofs.write_nodes.Goals as goal

pub loop-node-init : goal.loop-node-init
loop-node-init c = remains_all (omega (arith, c.requires, nodes_few c.args.nodes.now (λ k. (c.type_inv.nodes k).fits)))

pub field-requires : goal.field-requires
field-requires c =
    rw c.from.ensures (remains_fits (32 ∷ digits (get_or c.args.nodes.now c.loop-node.node-index 0)) _ (rw (node_next _ _ c.loop-node-test.true) at c.loop-node.invariant))

pub loop-node-preserved : goal.loop-node-preserved
loop-node-preserved c =
    remains_more (rw (node_next _ _ c.loop-node-test.true) at c.loop-node.invariant) (rw c.from.ensures at c.field.ensures)

pub byte-requires : goal.byte-requires
byte-requires c = remains_fits (10 ∷ []) [] (rw (nodes_done _ _ c.loop-node-test.false) at c.loop-node.invariant)

pub returns : goal.returns
returns c =
    let wrote = remains_none (remains_more (rw (nodes_done _ _ c.loop-node-test.false) at c.loop-node.invariant) c.byte.ensures) in
    record { wrote = wrote; upper_bound = omega (arith, wrote.wrote.ends, nodes_few c.args.nodes.now (λ k. (c.type_inv.nodes k).fits)) }
