use mathlib.Core.Path.{◌≡◌}
use Prim.Native.Nat.{max}
use lib.ListN.{drop}
use Rattle.std.specs.Option.{option_map}
use Rattle.survey_neighbours.specs.SurveyGraph.{graph}
use Rattle.search_depths.specs.Depth.{depth_of}
use Rattle.search_depths.proofs.Depths.{deepest}
use Rattle.search_depths.proofs.greatest_depth.Given as goal

abbrev pub invariant-loop-source : goal.invariant-loop-source
invariant-loop-source l =
    option_map (max l.depth) (depth_of (deepest l.survey.n (graph l.survey) (drop l.source-index l.sources)))
    ≡ option_map (max l.most) (depth_of (deepest l.survey.n (graph l.survey) l.sources))
