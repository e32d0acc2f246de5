use mathlib.Core.Path.{sym, ◌∙◌}
use Rattle.walk_routes.proofs.FitLaws.{link_missing, none_refused, link_short, link_fits}
use Rattle.walk_routes.proofs.write_link.Goals as goal

pub returns-then-not-linked : goal.returns-then-not-linked
returns-then-not-linked c =
    none_refused c.requires.blank _ (link_missing _ _ _ _ (sym c.are_linked-linked.ensures ∙ c.if-not-linked.true))

pub returns-then-walk-lt2 : goal.returns-then-walk-lt2
returns-then-walk-lt2 c =
    link_short c.requires.blank _ _ _ _ _ (sym c.are_linked-linked.ensures ∙ c.if-not-linked.false) c.if-walk-lt2.true

pub returns : goal.returns
returns c =
    link_fits c.requires.blank _ _ _ _ _ (sym c.are_linked-linked.ensures ∙ c.if-not-linked.false) c.if-walk-lt2.false
