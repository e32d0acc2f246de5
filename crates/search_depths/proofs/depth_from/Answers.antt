use mathlib.Core.Path.{ap, ◌∙◌}
use mathlib.Core.List.{List}
use Prim.Native.Nat.{ℕ}
use lib.ListN.{length}
use lib.Seq.{take_at}
use Rattle.std.proofs.lemmas.List.{take-replicate}
use Rattle.model.specs.Basics.{none}
use Rattle.model.proofs.Tests.{true_T}
use Rattle.model.proofs.Entries.{length_row}
use Rattle.search_one_source.proofs.AllowedNodes.{all_open, all_counted, search_all}
use Rattle.search_depths.specs.Depth.{greatest, depth_of}
use Rattle.search_depths.proofs.depth_from.Goals as goal

pub search_open-requires-clause-source_lt_n : goal.search_open-requires-clause-source_lt_n
search_open-requires-clause-source_lt_n c =
    let front = take-replicate c.args.survey.now.n 1024 none c.args.survey.now.accepted.size in
    (c.requires, true_T _ (all_open _ front _ c.requires), all_counted _ front)

pub returns : goal.returns
returns c =
    let front = take-replicate c.args.survey.now.n 1024 none c.args.survey.now.accepted.size in
    let found = c.search_open.ensures ∙ search_all _ front _ _ in
    let long = ap length found ∙ length_row _ _ in
    c.row_depth.ensures ∙ ap (λ (l : List ℕ). depth_of (greatest l)) (take_at c.search_open.new.row _ _ long ∙ found)
