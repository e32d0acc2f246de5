use Rattle.std.specs.Prelude.{Some}
use Rattle.std.proofs.Common.{arith, length-set, ap, sym, ◌∙◌}
use Rattle.walk_parts.proofs.StepLaws.{Going, all_below, step_of, last_step, no_step, step_below, step_on}
use Rattle.walk_parts.proofs.Part.+take_steps.Goals as goal

pub returns-then-d-eq0 : goal.returns-then-d-eq0
returns-then-d-eq0 t c =
    let going : Going c.args.self.now c.args.d c.args.v c.args.nodes.now = record { below = c.requires.0; room = c.requires.1 } in
    let w = last_step going c.if-d-eq0.true in
    record { value = w.0; leaves = w.1 }

pub next_node-requires : goal.next_node-requires
next_node-requires t c = rw c.own.ensures (all_below _ _ (λ x m. c.args.self.now.survey.accepted.lists.graph.below _ x c.requires.0 m))

pub take_steps-requires : goal.take_steps-requires
take_steps-requires t c =
    let going : Going c.args.self.now c.args.d c.args.v c.args.nodes.now = record { below = c.requires.0; room = c.requires.1 } in
    let step = step_of c.args.self.now c.if-d-eq0.false c.own.ensures c.next_node.ensures (c.in-Some.is ∙ ap Some (sym c.from.ensures)) in
    (omega arith, (step_below going step, simp length-set (omega arith)))

pub returns-in-Some : goal.returns-in-Some
returns-in-Some t c =
    let going : Going c.args.self.now c.args.d c.args.v c.args.nodes.now = record { below = c.requires.0; room = c.requires.1 } in
    let step = step_of c.args.self.now c.if-d-eq0.false c.own.ensures c.next_node.ensures (c.in-Some.is ∙ ap Some (sym c.from.ensures)) in
    let w = step_on going step _ (c.take_steps.ensures.value, c.take_steps.ensures.leaves) in
    record { value = w.0; leaves = w.1 }

pub returns-in-None : goal.returns-in-None
returns-in-None t c =
    let going : Going c.args.self.now c.args.d c.args.v c.args.nodes.now = record { below = c.requires.0; room = c.requires.1 } in
    let w = no_step going (step_of c.args.self.now c.if-d-eq0.false c.own.ensures c.next_node.ensures c.in-None.is) in
    record { value = w.0; leaves = w.1 }
