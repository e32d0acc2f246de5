use mathlib.Core.Path.{sym, ap, ◌∙◌}
use Prim.Native.Nat.{◌+◌, max}
use native.Mathlib.Omega.{arith}
use lib.ListN.{drop}
use Rattle.std.specs.Prelude.{Some}
use Rattle.std.specs.Option.{option_map}
use Rattle.model.proofs.Ascending.{get_d_has}
use Rattle.survey_neighbours.specs.SurveyGraph.{graph}
use Rattle.search_depths.specs.Depth.{depth_of}
use Rattle.search_depths.proofs.Depths.{deepest_next, deepest_end, deepest_missed, deepest_found}
use Rattle.search_depths.proofs.greatest_depth.Goals as goal

pub depth_from-requires : goal.depth_from-requires
depth_from-requires c = rw c.from.ensures (c.requires _ (get_d_has _ _ c.loop-source-test.true))

pub returns-in_err-depth_from : goal.returns-in_err-depth_from
returns-in_err-depth_from c =
    let s = c.args.survey.now in
    let i = c.loop-source.source-index in
    let next = deepest_next s.n (graph s) c.args.sources.now i c.loop-source-test.true c.from.ensures in
    let missed = deepest_missed s.n (graph s) s.accepted.size _ (drop (i + 1) c.args.sources.now) c.depth_from.ensures c.in_err-depth_from.was in
    c.from_residual.ensures
    ∙ ap (λ o. option_map (max c.loop-source.depth) o) (missed ∙ ap depth_of (sym next))
    ∙ c.loop-source.invariant

pub loop-source-preserved : goal.loop-source-preserved
loop-source-preserved c =
    let s = c.args.survey.now in
    let i = c.loop-source.source-index in
    let next = deepest_next s.n (graph s) c.args.sources.now i c.loop-source-test.true c.from.ensures in
    let found = deepest_found s.n (graph s) s.accepted.size _ (drop (i + 1) c.args.sources.now) c.depth_from.ensures c.in_ok-depth_from.was
    c.loop-source.depth in
    rw c.max-depth.ensures found
    ∙ ap (λ d. option_map (max c.loop-source.depth) (depth_of d)) (sym next)
    ∙ c.loop-source.invariant

pub returns : goal.returns
returns c =
    let end = deepest_end c.args.survey.now.n (graph c.args.survey.now) c.args.sources.now c.loop-source.source-index c.loop-source-test.false in
    ap Some (omega arith) ∙ ap (λ d. option_map (max c.loop-source.depth) (depth_of d)) (sym end) ∙ c.loop-source.invariant
