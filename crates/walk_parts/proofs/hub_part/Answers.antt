use Rattle.std.specs.Prelude.{true}
use Rattle.model.specs.Tables.{entry_at}
use Rattle.model.specs.Walk.{to_hub}
use Rattle.walk_parts.proofs.PartLaws.{part_by, all_in, row_left}
use Rattle.walk_parts.proofs.hub_part.Goals as goal

pub returns : goal.returns
unfolding to_hub
returns c =
    part_by _ c.write.ensures c.requires.2 (λ x. true) (λ x. entry_at c.args.survey.now.n c.args.full.now c.args.h x)
    (all_in _ c.insert_below.ensures) (row_left _ _ _)
