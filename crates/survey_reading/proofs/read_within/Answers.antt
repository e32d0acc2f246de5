use native.Mathlib.Omega.{arith}
use mathlib.Core.Path.{◌≡◌, refl}
use mathlib.Core.List.{List, []}
use Prim.Native.Nat.{ℕ, ◌*◌, ◌≤◌}
use lib.ListN.{length, replicate}
use Rattle.std.specs.Prelude.{Ok}
use Rattle.std.proofs.lemmas.Result.{err_from_is_err_and}
use Rattle.model.specs.Reading.{read_links}
use Rattle.model.proofs.Links.{links_sound}
use Rattle.survey_reading_lines.specs.LinesRead.{Told}
use Rattle.survey_reading.proofs.ReadLaws.{cleared, cleared_own, LinksRead, links_read, links_refused, counts_within, first_refused, first_read}
use Rattle.survey_reading.proofs.read_within.Goals as goal

-- i link lines were read into a matrix
lines_read : (n m p q i : ℕ) (text ws : List ℕ) → n ≤ 1024 → m ≤ 16384 → 2 * m ≤ q → Told (read_links n m [] text) (Ok i) ws
    → LinksRead n p q (read_links n m [] text) i ws
lines_read n m p q i text ws size most room =
    links_read n m p q (read_links n m [] text) i ws size most room
    (λ ls e. let g = links_sound _ _ _ text ls e in record { fresh = g.fresh; few = omega (arith, g.count) })

pub returns-in_err-n : goal.returns-in_err-n
returns-in_err-n c =
    let refused = err_from_is_err_and c.from_residual.result c.from_residual.ensures.1 in
    let z = cleared c.args.starts.now c.args.neighbours.now (c.fill.ensures.after (λ y e. e)) (c.fill-2.ensures.after (λ y e. e)) in
    rw (refused.1, refused.2) (first_refused _ _ _ z c.in_err-n.field-0.0 c.in_err-n.ensures)

pub read_links-requires : goal.read_links-requires
read_links-requires c =
    let z = cleared c.args.starts.now c.args.neighbours.now (c.fill.ensures.after (λ y e. e)) (c.fill-2.ensures.after (λ y e. e)) in
    let counts = counts_within c.args.most_nodes c.args.most_links c.args.text.now z _ _ c.in_ok-n.field-0.end c.in_ok-n.ensures in
    (omega (arith, counts.size), refl)

pub returns-in_err-links : goal.returns-in_err-links
returns-in_err-links c =
    let refused = err_from_is_err_and c.from_residual-in_err-links.result c.from_residual-in_err-links.ensures.1 in
    let z = cleared c.args.starts.now c.args.neighbours.now (c.fill.ensures.after (λ y e. e)) (c.fill-2.ensures.after (λ y e. e)) in
    let zero = cleared_own z in
    let refused_lists = links_refused c.in_ok-n.field-0.a _ _ _ c.in_err-links.field-0.0 _ zero.0 zero.1 c.in_err-links.ensures in
    rw (refused.1, refused.2) (first_read _ _ _ z _ _ _ c.in_ok-n.ensures refused_lists)

pub write_lists-requires-clause-n_bound : goal.write_lists-requires-clause-n_bound
write_lists-requires-clause-n_bound c =
    let z = cleared c.args.starts.now c.args.neighbours.now (c.fill.ensures.after (λ y e. e)) (c.fill-2.ensures.after (λ y e. e)) in
    let counts = counts_within c.args.most_nodes c.args.most_links c.args.text.now z _ _ c.in_ok-n.field-0.end c.in_ok-n.ensures in
    (omega (arith, counts.size), counts.room)

pub write_lists-requires-clause-bits_in_bounds : goal.write_lists-requires-clause-bits_in_bounds
write_lists-requires-clause-bits_in_bounds c =
    let z = cleared c.args.starts.now c.args.neighbours.now (c.fill.ensures.after (λ y e. e)) (c.fill-2.ensures.after (λ y e. e)) in
    let counts = counts_within c.args.most_nodes c.args.most_links c.args.text.now z _ _ c.in_ok-n.field-0.end c.in_ok-n.ensures in
    let read = lines_read _ _ (length c.fill.new.self) _ _ _ _ (omega (arith, counts.size)) (omega (arith, counts.few)) counts.list_room c.in_ok-links.ensures in
    (read.room, read.few)

pub returns : goal.returns
returns c =
    let z = cleared c.args.starts.now c.args.neighbours.now (c.fill.ensures.after (λ y e. e)) (c.fill-2.ensures.after (λ y e. e)) in
    let zero = cleared_own z in
    let counts = counts_within c.args.most_nodes c.args.most_links c.args.text.now z _ _ c.in_ok-n.field-0.end c.in_ok-n.ensures in
    let read = lines_read _ _ (length c.fill.new.self) _ _ _ _ (omega (arith, counts.size)) (omega (arith, counts.few)) counts.list_room c.in_ok-links.ensures in
    rw (c.write_lists.ensures.starts_after, c.write_lists.ensures.neighbours_after)
    (first_read _ _ _ z _ _ _ c.in_ok-n.ensures (read.is zero.0 zero.1))
