use mathlib.Core.Path.{◌≡◌, refl}
use mathlib.Core.List.{List}
use Prim.Native.Nat.{ℕ}
use lib.ListN.{length, replicate}
use Rattle.std.proofs.lemmas.Result.{err_from_is_err_and}
use Rattle.survey_reading.proofs.ReadLaws.{cleared, cleared_own, links_refused}
use Rattle.survey_importing.proofs.ImportLaws.{counts_within, head_refused, head_read, edges_read, import_is}
use Rattle.survey_importing.proofs.import_survey.Goals as goal

pub returns-in_err-n : goal.returns-in_err-n
returns-in_err-n c =
    let refused = err_from_is_err_and c.from_residual.result c.from_residual.ensures.1 in
    let z = cleared c.args.starts.now c.args.neighbours.now (c.fill.ensures.after (λ y e. e)) (c.fill-2.ensures.after (λ y e. e)) in
    let right = import_is _ _ _ (head_refused _ z c.in_err-n.field-0.0 c.in_err-n.ensures) in
    rw (refused.1, refused.2) (record { neighbours_after = right.0; import_right = right.1 })

pub read_edges-requires : goal.read_edges-requires
read_edges-requires c =
    let z = cleared c.args.starts.now c.args.neighbours.now (c.fill.ensures.after (λ y e. e)) (c.fill-2.ensures.after (λ y e. e)) in
    let counts = counts_within c.args.text.now z _ _ c.in_ok-n.field-0.end c.in_ok-n.ensures in
    (counts.size, refl)

pub returns-in_err-links : goal.returns-in_err-links
returns-in_err-links c =
    let refused = err_from_is_err_and c.from_residual-in_err-links.result c.from_residual-in_err-links.ensures.1 in
    let z = cleared c.args.starts.now c.args.neighbours.now (c.fill.ensures.after (λ y e. e)) (c.fill-2.ensures.after (λ y e. e)) in
    let zero = cleared_own z in
    let refused_lists = links_refused c.in_ok-n.field-0.a _ _ _ c.in_err-links.field-0.0 _ zero.0 zero.1 c.in_err-links.ensures in
    let right = import_is _ _ _ (head_read _ z _ _ _ c.in_ok-n.ensures refused_lists) in
    rw (refused.1, refused.2) (record { neighbours_after = right.0; import_right = right.1 })

pub write_lists-requires-clause-n_bound : goal.write_lists-requires-clause-n_bound
write_lists-requires-clause-n_bound c =
    let z = cleared c.args.starts.now c.args.neighbours.now (c.fill.ensures.after (λ y e. e)) (c.fill-2.ensures.after (λ y e. e)) in
    let counts = counts_within c.args.text.now z _ _ c.in_ok-n.field-0.end c.in_ok-n.ensures in
    (counts.size, counts.room)

pub write_lists-requires-clause-bits_in_bounds : goal.write_lists-requires-clause-bits_in_bounds
write_lists-requires-clause-bits_in_bounds c =
    let z = cleared c.args.starts.now c.args.neighbours.now (c.fill.ensures.after (λ y e. e)) (c.fill-2.ensures.after (λ y e. e)) in
    let counts = counts_within c.args.text.now z _ _ c.in_ok-n.field-0.end c.in_ok-n.ensures in
    let read = edges_read _ _ (length c.fill.new.self) _ _ _ _ counts.size counts.few counts.list_room c.in_ok-links.ensures in
    (read.room, read.few)

pub returns : goal.returns
returns c =
    let z = cleared c.args.starts.now c.args.neighbours.now (c.fill.ensures.after (λ y e. e)) (c.fill-2.ensures.after (λ y e. e)) in
    let zero = cleared_own z in
    let counts = counts_within c.args.text.now z _ _ c.in_ok-n.field-0.end c.in_ok-n.ensures in
    let read = edges_read _ _ (length c.fill.new.self) _ _ _ _ counts.size counts.few counts.list_room c.in_ok-links.ensures in
    let right = import_is _ _ _ (head_read _ z _ _ _ c.in_ok-n.ensures (read.is zero.0 zero.1)) in
    rw (c.write_lists.ensures.starts_after, c.write_lists.ensures.neighbours_after)
    (record { neighbours_after = right.0; import_right = right.1 })
