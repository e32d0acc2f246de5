use Rattle.std.specs.Prelude.{◌≡◌, Err}
use Rattle.std.proofs.Common.{arith, ◌∙◌}
use Rattle.std.proofs.lemmas.Grind.{common_steps}
use lib.ListN.{length, length-replicate}
use Rattle.model.specs.Walking.{refuse_walk, walk_of, walk_returned}
use Rattle.walk_writing.proofs.RouteLaws.{judged_nodes, written}
use Rattle.walk_writing.proofs.write_walk.Goals as goal

pub returns-in_err-pair : goal.returns-in_err-pair
unfolding walk_of refuse_walk
returns-in_err-pair c =
    let a = c.args in
    let e : c.from_residual.result ≡ Err c.in_err-pair.field-0.0 = grind (arith, common_steps) in
    let w = written a.n a.t a.starts.now a.neighbours.now a.full.now a.low.now a.report.now a.a a.b (length a.walk.now)
    {r = walk_returned c.from_residual.result c.fill.new.self} (rw (e, c.in_err-pair.ensures.by_index _, (c.fill.ensures.after (λ y e. e)))) in
    record { walk_after = w.0; walk_sound = w.1.0; walk_right = w.1.1 }

pub returns : goal.returns
unfolding walk_of
returns c =
    let a = c.args in
    let judged = c.in_ok-pair.ensures in
    let nodes = judged_nodes c.in_ok-pair.pair judged.judged in
    let w = written a.n a.t a.starts.now a.neighbours.now a.full.now a.low.now a.report.now a.a a.b (length a.walk.now)
    {r = walk_returned c.write.result c.write.new.walk}
    (c.write.ensures ∙ rw (judged.by_index _, (c.fill.ensures.after (λ y e. e)), length-replicate, nodes, c.in_force-s.ensures)) in
    record { walk_after = w.0; walk_sound = w.1.0; walk_right = w.1.1 }
