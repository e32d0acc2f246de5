use Rattle.walk_parts.proofs.Part.+take_steps.Given as goal

abbrev pub decreases-take_steps : goal.decreases-take_steps
decreases-take_steps l = l.d
