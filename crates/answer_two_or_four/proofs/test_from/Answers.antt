use mathlib.Core.Path.{◌≡◌, ◌∙◌}
use Rattle.model.specs.Hubs.{closed}
use Rattle.survey_neighbours.specs.SurveyGraph.{graph}
use Rattle.search_depths.specs.Depth.{depth_of}
use Rattle.search_depths.proofs.Depths.{deepest}
use Rattle.answer_two_or_four.proofs.Sources.{result_is, closed_missed, closed_found, closed_count}
use Rattle.answer_two_or_four.proofs.test_from.Goals.{in-Some, in-None}
use Rattle.answer_two_or_four.proofs.test_from.Goals as goal

pub returns : goal.returns
returns c =
    let s = c.args.survey.now in
    let depth : c.match-depth_from.depth ≡ depth_of (deepest s.n (graph s) (closed (graph s) c.args.v)) =
    elim c.match-depth_from.branch [
      | in-Some w ↦ w.depth-is ∙ w.greatest_depth-depth.ensures
          ∙ closed_found _ _ _ s.accepted.size c.depth_from.ensures c.own-own.ensures w.in-Some.is
      | in-None w ↦ w.depth-is ∙ closed_missed _ _ _ s.accepted.size c.depth_from.ensures w.in-None.is
    ] in
    result_is _ _ _ s.accepted.size c.verdict_on.ensures depth (closed_count _ _ c.own-own.ensures)
