use mathlib.Core.Path.{◌≡◌, refl, ap}
use native.Mathlib.Omega.{arith}
use Rattle.model.specs.Survey.{IsGraph}
use Rattle.search_many_sources.specs.Groups.{nodes, links}
use Rattle.search_many_sources.proofs.GroupDistances.{searched_start, searched_next, searched_idle, searched_end}
use Rattle.search_many_sources.proofs.Group.search_levels.Goals as goal

pub loop-d-init : goal.loop-d-init
loop-d-init c = searched_start _ _ _ _ _ _ c.requires.begun_all c.requires.table_len

pub returns-then-not-level : goal.returns-then-not-level
returns-then-not-level c =
    let is_graph : IsGraph (nodes c.args.self.now) (links c.args.self.now) = c.args.self.now.survey.accepted.lists.graph in
    λ e. searched_idle _ _ _ _ _ is_graph _ _ _ _ _ _ c.loop-d.invariant c.level.ensures c.if-not-level.true (omega arith)

pub loop-d-preserved : goal.loop-d-preserved
loop-d-preserved c =
    let is_graph : IsGraph (nodes c.args.self.now) (links c.args.self.now) = c.args.self.now.survey.accepted.lists.graph in
    let swapped : c.swap.new.x.now ≡ c.level.new.far = ap (λ x. x.now) c.swap.ensures.x_after in
    rw swapped (searched_next _ _ _ _ _ is_graph _ _ _ _ _ _ c.loop-d.invariant c.level.ensures _ refl c.level.auto.table)

pub returns : goal.returns
returns c = λ e. searched_end _ _ _ _ _ _ _ _ c.loop-d.invariant (omega arith)
