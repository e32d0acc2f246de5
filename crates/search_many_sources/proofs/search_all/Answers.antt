use mathlib.Core.Path.{◌≡◌}
use native.Mathlib.Omega.{arith}
use Prim.Native.Nat.{◌+◌, ◌*◌}
use Rattle.search_many_sources.proofs.GroupDistances.{grouped_none, grouped_unfilled, grouped_more, grouped_all}
use Rattle.search_many_sources.proofs.search_all.Goals as goal

pub loop-number-init : goal.loop-number-init
loop-number-init c = grouped_none _ _ _ _ _ c.requires (c.fill.ensures.after (λ y e. e))

pub search-requires-clause-unfilled : goal.search-requires-clause-unfilled
search-requires-clause-unfilled c = grouped_unfilled _ _ _ _ _ c.loop-number.invariant

pub loop-number-preserved : goal.loop-number-preserved
loop-number-preserved c =
    let next : 256 * c.loop-number.number + 256 ≡ 256 * (c.loop-number.number + 1) = omega arith in
    rw next at (grouped_more _ _ _ _ _ c.loop-number.invariant _ c.search.auto.table (c.search.ensures c.if-not-search.false))

pub returns : goal.returns
returns c = λ e. grouped_all _ _ _ _ _ c.loop-number.invariant (omega arith)
