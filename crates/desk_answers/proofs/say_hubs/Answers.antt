use mathlib.Core.Path.{◌≡◌, sym}
use mathlib.Core.List.{List}
use Prim.Native.Nat.{ℕ, ◌≤◌}
use native.Mathlib.Omega.{arith}
use borrow.Author.Rules.{rules}
use lib.ListN.{length, take}
use lib.Seq.{length-take-le}
use Rattle.model.specs.Survey.{Graph}
use Rattle.model.specs.Hubs.{hubs}
use Rattle.model.proofs.Covering.{hubs_length}
use Rattle.desk_sentences.proofs.Saying.{room_behind, writes_behind}
use Rattle.table_hubs.proofs.Greedy.{hubs_front}
use Rattle.desk_answers.specs.Said.{hubs_said}
use Rattle.desk_answers.proofs.say_hubs.Goals as goal

module _ (n s : ℕ) (G : Graph) {count : ℕ} (value : count ≡ length (hubs n s G)) (size : n ≤ 1024) (list : List ℕ) (entries : length list ≡ 1024) where
  -- there are at most n hubs, and n is at most 1,024
  few : count ≤ length list
  few = omega (arith, value, hubs_length n G s, entries, size)

  -- the part of the list that is said
  part : length (take count list) ≡ count
  part = length-take-le count list few

pub slice_bounds-list-end : goal.slice_bounds-list-end
slice_bounds-list-end c = few _ _ _ c.choose_hubs-count.ensures.value c.args.survey.now.accepted.size _ (omega arith)

pub slice_bounds-write_hubs-end : goal.slice_bounds-write_hubs-end
slice_bounds-write_hubs-end c =
    sym (part _ _ _ c.choose_hubs-count.ensures.value c.args.survey.now.accepted.size _ (omega arith))

pub write_high-requires : goal.write_high-requires
write_high-requires c =
    let said = part _ _ _ c.choose_hubs-count.ensures.value c.args.survey.now.accepted.size c.choose_hubs-count.new.list (omega arith) in
    let most = few _ _ _ c.choose_hubs-count.ensures.value c.args.survey.now.accepted.size c.choose_hubs-count.new.list (omega arith) in
    let wrote = c.write_hubs.ensures in
    omega (arith, room_behind 6185 (omega (arith, wrote.upper_bound, said, most)) wrote.wrote 110 (omega (arith, c.requires)))

pub returns : goal.returns
unfolding hubs_said
returns c =
    let value = c.choose_hubs-count.ensures.value in
    let size = c.args.survey.now.accepted.size in
    let said = part _ _ _ value size c.choose_hubs-count.new.list (omega arith) in
    let most = few _ _ _ value size c.choose_hubs-count.new.list (omega arith) in
    let hubs = c.write_hubs.ensures in
    let high = c.write_high.ensures in
    let both = writes_behind 6185 (omega (arith, hubs.upper_bound, said, most)) hubs.wrote 110 high.upper_bound (omega (arith, c.requires)) high.wrote in
    let wrote = rw (hubs_front _ _ _ _ _ _ value c.choose_hubs-count.ensures.list_after, c.high_count-high.ensures) at both in
    search rules
