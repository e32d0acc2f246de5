-- What is said, from what the calls answer.
-- Assumes nothing.
use mathlib.Core.Path.{◌≡◌, sym, ap, ap₂, ◌∙◌}
use mathlib.Core.Bool.{Bool, ◌&&◌}
use mathlib.Core.List.{List}
use Prim.Native.Nat.{ℕ, ◌*◌, ◌≤◌}
use native.Mathlib.Omega.{arith}
use lib.Dec.{ltb, ltb→lt, lt→ltb}
use lib.ListN.{length, take, drop, length-append, take-append-drop}
use Rattle.model.specs.declared.Answer.{Answer}
use Rattle.model.specs.Answers.{Outcome}
use Rattle.model.specs.Basics.{up_to, keep}
use Rattle.model.specs.Survey.{Graph, neighbours_of}
use Rattle.model.specs.Hubs.{is_high}
use Rattle.model.specs.Asking.{asking}
use Rattle.model.specs.Walking.{AfterWalking, walking}
use Rattle.model.proofs.Tests.{and_i, and_l, and_r}
use Rattle.model.proofs.Lists.{of_up_to, keep_same, keep_below}
use Rattle.text_writing.specs.declared.Writer.{Writer}
use Rattle.text_writing.specs.Writes.{Writes}
use Rattle.table_building.proofs.WholeTables.{AreTables}
use Rattle.desk_answers.specs.Said.{asked_said, pair_said, walked_said, walk_said}

-- ---- a pair and its walk, by tables that are those of the rules

module _ {n s : ℕ} {G : Graph} {count : ℕ} {full low report : List ℕ} (own : AreTables n s G count full low report) (a b : ℕ) where
  pub pair_is : {o : Outcome Answer} → o ≡ asking n full low report a b → pair_said n s G a b ≡ asked_said n a b o
  unfolding pair_said
  pair_is e = ap (asked_said n a b) (sym (e ∙ rw (own.full_is, own.low_is, own.report_is)))

module _ (n t s : ℕ) (starts neighbours : List ℕ) {count : ℕ} {full low report : List ℕ}
    (own : AreTables n s (neighbours_of starts neighbours) count full low report) (a b : ℕ) {w : ℕ} (size : w ≡ 2048) where
  pub walk_is : {z : AfterWalking} → z ≡ walking n t starts neighbours full low report a b w
      → walk_said n t s starts neighbours a b ≡ walked_said n a b z.answer z.walk
  unfolding walk_said
  walk_is e = ap (λ (z : AfterWalking). walked_said n a b z.answer z.walk)
      (sym (e ∙ rw (own.full_is, own.low_is, own.report_is, size)))

-- ---- how many nodes are high

pub high_counted : (n s : ℕ) (G : Graph) → n ≤ 1024 → (k : ℕ) → k ≡ 16 → {p : ℕ → Bool} → p ≡ (λ v. ltb v n && is_high s G v)
    → length (keep p (up_to (64 * k))) ≡ length (keep (is_high s G) (up_to n))
high_counted n s G h k i e =
    ap₂ (λ (p : ℕ → Bool) (j : ℕ). length (keep p (up_to (64 * j)))) e i ∙ ap length (cut ∙ same_below)
  where
    p : ℕ → Bool
    p v = ltb v n && is_high s G v

    cut : keep p (up_to 1024) ≡ keep p (up_to n)
    cut = keep_below p n 1024 h (λ x t. ltb→lt x n (and_l (ltb x n) (is_high s G x) t))

    same_below : keep p (up_to n) ≡ keep (is_high s G) (up_to n)
    same_below = keep_same p (is_high s G) (up_to n) (λ x h t. and_r (ltb x n) (is_high s G x) t) (λ x h t. and_i (ltb x n) (is_high s G x) (lt→ltb x n (of_up_to n x h)) t)

-- ---- a front that has its whole length is within the list

pub front_within : (k : ℕ) (l : List ℕ) → length (take k l) ≡ k → k ≤ length l
front_within k l e = omega (arith, e, sym (length-append (take k l) (drop k l)) ∙ ap length (take-append-drop k l))

-- ---- what one branch wrote is what was written

pub writes_same : {old new new' : Writer} {t t' : List ℕ} → new' ≡ new → t' ≡ t → Writes old new t → Writes old new' t'
writes_same e f w = rw (e, f) w
