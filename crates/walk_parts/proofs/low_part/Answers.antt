use Rattle.table_degree_split.proofs.Degrees.{low_are}
use Rattle.model.specs.Hubs.{is_low}
use Rattle.model.specs.Tables.{entry_at}
use Rattle.model.specs.Walk.{by_low}
use Rattle.survey_neighbours.specs.SurveyGraph.{graph}
use Rattle.walk_parts.proofs.PartLaws.{part_by, column_left}
use Rattle.walk_parts.proofs.low_part.Goals as goal

pub returns : goal.returns
unfolding by_low
returns c =
    part_by _ c.write.ensures c.requires.1 (is_low c.args.s (graph c.args.survey.now)) (λ x. entry_at c.args.survey.now.n c.args.low.now x c.args.b)
    (low_are _ _ _ _ c.low_nodes.ensures) (column_left _ _ _)
