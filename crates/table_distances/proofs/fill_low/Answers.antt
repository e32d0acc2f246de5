use mathlib.Core.Path.{◌≡◌, sym, ap, ◌∙◌}
use mathlib.Core.List.{List, ◌++◌}
use Prim.Native.Nat.{ℕ, ◌*◌}
use lib.ListN.{drop}
use lib.Seq.{drop_at, length-take-le}
use Rattle.model.specs.Basics.{over}
use Rattle.base_lists.proofs.TableRows.{over_table, over_same}
use Rattle.table_distances.proofs.Distances.{low_table_lem}
use Rattle.table_distances.proofs.fill_low.Goals as goal

pub returns-then-not-search_all : goal.returns-then-not-search_all
returns-then-not-search_all c =
    let size : ℕ = c.args.survey.now.n * c.args.survey.now.n in
    let front : List ℕ = c.search_all.new.table in
    let rest : List ℕ = drop size c.args.low.now in
    let behind : drop size (front ++ rest) ≡ rest = drop_at front _ _ (c.search_all.auto.table ∙ length-take-le _ _ c.requires) in
    c.low_rows.ensures ∙ over_same _ _ _ _ behind ∙ ap (λ (t : List ℕ). over t c.args.low.now) (low_table_lem _ _ _ _ c.low_nodes.ensures)

pub returns-else-not-search_all : goal.returns-else-not-search_all
returns-else-not-search_all c =
    let rest : List ℕ = drop (c.args.survey.now.n * c.args.survey.now.n) c.args.low.now in
    ap (λ (t : List ℕ). t ++ rest) (c.search_all.ensures c.if-not-search_all.false)
    ∙ sym (over_table _ _ _)
    ∙ ap (λ (t : List ℕ). over t c.args.low.now) (low_table_lem _ _ _ _ c.low_nodes.ensures)
