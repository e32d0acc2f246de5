use native.Mathlib.Omega.{arith}
use mathlib.Core.Path.{sym, ◌∙◌}
use Rattle.search_many_sources.proofs.Begins.{source_not, source_is, begun_not, begun_put}
use Rattle.search_many_sources.proofs.Group.begin.Goals as goal

pub returns-then-not-contains : goal.returns-then-not-contains
returns-then-not-contains c =
    begun_not _ _ _ _ _ (source_not _ _ _ (sym c.contains.ensures ∙ c.if-not-contains.true))

pub returns : goal.returns
returns c =
    let h = c.requires.in_group in
    begun_put _ _ _ _ (source_is _ _ _ h.0 h.1 (sym c.contains.ensures ∙ c.if-not-contains.false))
    h.0 h.1 h.2 _ _ _ (omega arith) c.requires.table_len c.insert_source.ensures
