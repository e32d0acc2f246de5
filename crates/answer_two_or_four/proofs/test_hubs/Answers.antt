use mathlib.Core.Path.{◌≡◌, sym, ap, ◌∙◌}
use native.Mathlib.Omega.{arith}
use lib.ListN.{length, take, length-take}
use Rattle.model.specs.Hubs.{hubs}
use Rattle.model.proofs.Covering.{hubs_below}
use Rattle.survey_neighbours.specs.SurveyGraph.{graph}
use Rattle.table_hubs.proofs.Greedy.{hubs_front}
use Rattle.answer_two_or_four.proofs.Sources.{result_is, list_depth}
use Rattle.answer_two_or_four.proofs.test_hubs.Goals.{After-choose_hubs-searches}
use Rattle.answer_two_or_four.proofs.test_hubs.Goals as goal

front : (c : After-choose_hubs-searches)
    → take c.choose_hubs-searches.result c.choose_hubs-searches.new.list ≡ hubs c.args.survey.now.n c.args.s (graph c.args.survey.now)
front c = hubs_front _ _ _ _ _ _ c.choose_hubs-searches.ensures.value c.choose_hubs-searches.ensures.list_after

counted : (c : After-choose_hubs-searches)
    → c.choose_hubs-searches.result ≡ length (take c.choose_hubs-searches.result c.choose_hubs-searches.new.list)
counted c = c.choose_hubs-searches.ensures.value ∙ ap length (sym (front c))

pub slice_bounds-list-end : goal.slice_bounds-list-end
slice_bounds-list-end c =
    let all = counted (goal.at.slice_bounds-list-end c).After-choose_hubs-searches in
    omega (arith, all, length-take c.choose_hubs-searches.result c.choose_hubs-searches.new.list)

pub slice_bounds-greatest_depth-end : goal.slice_bounds-greatest_depth-end
slice_bounds-greatest_depth-end c = counted (goal.at.slice_bounds-greatest_depth-end c).After-choose_hubs-searches

pub greatest_depth-depth-requires : goal.greatest_depth-depth-requires
greatest_depth-depth-requires c =
    let hubs_at = front (goal.at.greatest_depth-depth-requires c).After-choose_hubs-searches in
    λ h t. hubs_below _ _ _ h (rw hubs_at at t)

pub returns : goal.returns
returns c =
    let hubs_at = front (goal.at.returns c).After-choose_hubs-searches in
    result_is _ _ _ c.args.survey.now.accepted.size c.verdict_on-verdict.ensures (list_depth _ _ hubs_at c.greatest_depth-depth.ensures)
    c.choose_hubs-searches.ensures.value
