use mathlib.Core.Path.{◌≡◌, sym, ap, ◌∙◌}
use Prim.Native.Nat.{ℕ, ◌+◌, ◌-◌, ◌*◌}
use lib.ListN.{length, replicate}
use borrow.Rule.Slice.PartMut.{mid_of}
use Rattle.model.specs.Basics.{none}
use Rattle.base_nodeset.specs.NodeSet.{member}
use Rattle.base_lists.proofs.TableRows.{part_length, row_put}
use Rattle.table_distances.proofs.Distances.{distance_none}
use Rattle.table_distances.proofs.low_row.Goals as goal

pub returns-else-contains : goal.returns-else-contains
returns-else-contains c =
    let n = c.args.survey.now.n in
    let start = c.args.a * n in
    let size : length (mid_of start (start + n - start) c.args.low.now) ≡ n = part_length _ _ _ c.requires.0 c.requires.1 in
    row_put start _ _ _ _ (c.fill.auto.self ∙ size) ((c.fill.ensures.after (λ y e. e)) ∙ ap (λ (k : ℕ). replicate k none) size
    ∙ distance_none _ (member c.args.low_nodes.now) _ _ (sym c.contains.ensures ∙ c.if-contains.false))
