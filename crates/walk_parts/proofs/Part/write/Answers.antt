use Rattle.std.proofs.Common.{sym, ◌∙◌}
use Rattle.walk_parts.proofs.PartLaws.{part_long, part_missed, part_given}
use Rattle.walk_parts.proofs.Part.write.Goals.{else-d-self-via-then-d-self+else-take_steps, else-d-self-via-else-d-self}
use Rattle.walk_parts.proofs.Part.write.Goals as goal

pub returns-then-take_steps : goal.returns-then-take_steps
returns-then-take_steps c =
    part_given c.args.self.now c.requires.0 (c.from-d.ensures ∙ c.left.ensures) _ _ c.if-d-self.true
    (sym c.if-take_steps.true ∙ c.take_steps.ensures.value) c.take_steps.ensures.leaves

pub returns-else-d-self : goal.returns-else-d-self
returns-else-d-self c =
    let left = c.from-d.ensures ∙ c.left.ensures in
    elim c.else-d-self.branch [
      | else-d-self-via-then-d-self+else-take_steps w ↦ part_missed c.args.self.now c.requires.0 left _ _ (sym w.if-take_steps.false ∙ w.take_steps.ensures.value)
      | else-d-self-via-else-d-self w ↦ part_long c.args.self.now c.requires.0 left _ _ w.if-d-self.false
    ]
