use mathlib.Core.Path.{◌≡◌}
use mathlib.Core.List.{[], ◌∷◌}
use Prim.Native.Nat.{◌≤◌}
use native.Mathlib.Omega.{arith}
use borrow.Author.Tests.{ltb-true}
use lib.ListN.{length, get_or}
use Rattle.text_writing.proofs.Writing.{remains_all, remains_fits, remains_more, remains_none}
use Rattle.desk_sentences.proofs.Saying.{number_next, byte_next, sentence_end, sentence_few}
use Rattle.desk_sentences.proofs.write_sentence.Goals.{in-len1-up, in_default, in_default-via-then-left-lt1, in_default-via-in-len1-up+else-c-eq35}
use Rattle.desk_sentences.proofs.write_sentence.Goals as goal

pub loop-c-init : goal.loop-c-init
loop-c-init c = remains_all (omega (arith, c.requires, sentence_few c.args.form.now c.args.numbers.now (λ k. (c.type_inv.numbers k).fits)))

pub digits-requires : goal.digits-requires
digits-requires c =
    remains_fits _ _ (rw (number_next _ c.loop-c.left.now _ c.loop-c-test.true c.if-c-eq35.true c.in-len1-up.len_at_least) at c.loop-c.invariant)

pub byte-requires : goal.byte-requires
byte-requires c =
    let other : 1 ≤ length c.loop-c.left.now → get_or c.args.form.now c.loop-c.c-index 0 ≡ 35 → ⊥ =
    elim c.in_default.branch [
      | in_default-via-then-left-lt1 w ↦ λ j e. absurd (omega (arith, ltb-true))
      | in_default-via-in-len1-up+else-c-eq35 w ↦ λ j e. w.if-c-eq35.false e
    ] in
    remains_fits (get_or c.args.form.now c.loop-c.c-index 0 ∷ []) _ (rw (byte_next _ c.loop-c.left.now _ c.loop-c-test.true other) at c.loop-c.invariant)

pub loop-c-preserved : goal.loop-c-preserved
loop-c-preserved c =
    elim c.if-left-lt1.branch [
      | in-len1-up w ↦
          let next = rw (number_next _ c.loop-c.left.now _ c.loop-c-test.true w.if-c-eq35.true w.in-len1-up.len_at_least) at c.loop-c.invariant in
          rw (w.writer-is, w.left-is) (remains_more next w.digits.ensures)
      | in_default w ↦
          let other : 1 ≤ length c.loop-c.left.now → get_or c.args.form.now c.loop-c.c-index 0 ≡ 35 → ⊥ =
          elim w.in_default.branch [
            | in_default-via-then-left-lt1 w' ↦ λ j e. absurd (omega (arith, ltb-true))
            | in_default-via-in-len1-up+else-c-eq35 w' ↦ λ j e. w'.if-c-eq35.false e
          ] in
          let next = rw (byte_next _ c.loop-c.left.now _ c.loop-c-test.true other) at c.loop-c.invariant in
          rw (w.writer-is, w.left-is) (remains_more next w.byte.ensures)
    ]

pub returns : goal.returns
returns c =
    let wrote = remains_none (rw (sentence_end _ c.loop-c.left.now _ c.loop-c-test.false) at c.loop-c.invariant) in
    record {
      wrote = wrote;
      upper_bound = omega (arith, wrote.wrote.ends, sentence_few c.args.form.now c.args.numbers.now (λ k. (c.type_inv.numbers k).fits));
    }
