-- The high nodes, one node more at a time, and the low ones.
-- Assumes nothing.
use mathlib.Core.Path.{◌≡◌, refl, ap, ap₂, ◌∙◌, fun_ext}
use mathlib.Core.Logic.{◌⊎◌, inl, inr}
use mathlib.Core.Bool.{Bool, true, false, not, ◌&&◌, ◌||◌, and-false}
use mathlib.Core.List.{List}
use Prim.Native.Nat.{ℕ, ◌+◌, ◌≤◌, ◌<◌}
use native.Mathlib.Omega.{arith}
use borrow.Author.Tests.{lt-ltb, le-ltb, le-leb, lt-leb, eq-eqb, ne_eqb}
use lib.Dec.{eqb, ltb}
use lib.ListN.{length, replicate}
use Rattle.model.specs.Survey.{Graph}
use Rattle.model.specs.Hubs.{is_high, is_low}
use Rattle.model.proofs.Tests.{ltb_next, eq_or}
use Rattle.base_nodeset.specs.NodeSet.{Nodes, member, empty_set, inserted, difference}
use Rattle.base_nodeset.proofs.Bits.{empty_words}

-- the high nodes below v are in the set
pub record HighBelow (s : ℕ) (G : Graph) (ws : List ℕ) (v : ℕ) : Type 0 where
  pub long : length ws ≡ 16
  pub says : member ws ≡ (λ x. ltb x v && is_high s G x)

-- no node is below 0
pub high_none : {s : ℕ} {G : Graph} {ws : List ℕ} → ws ≡ replicate 16 0 → HighBelow s G ws 0
unfolding empty_set
high_none e = record {
  long = ap length e;
  says = ap member e ∙ empty_words 16 ∙ fun_ext (λ x. rw (le-ltb x 0 (omega arith)));
}

module _ {s : ℕ} {G : Graph} {ws : List ℕ} {v : ℕ} (h : HighBelow s G ws v) where
  -- v is high, and is put into the set
  pub high_with : {ws' : List ℕ} → s ≤ length (G v) → length ws' ≡ length ws → member ws' ≡ inserted (member ws) v
      → HighBelow s G ws' (v + 1)
  unfolding inserted is_high
  high_with l k e = record {
    long = k ∙ h.long;
    says = e ∙ fun_ext (λ x. ap (λ (p : Nodes). eqb x v || p x) h.says ∙ at x (eq_or x v));
  }
    where
      at : (x : ℕ) → (x ≡ v) ⊎ (x ≡ v → ⊥) → (eqb x v || (ltb x v && is_high s G x)) ≡ (ltb x (v + 1) && is_high s G x)
      at x (inl q) =
          let high : is_high s G x ≡ true = ap (is_high s G) q ∙ le-leb s (length (G v)) l in
          rw (eq-eqb x v q, lt-ltb x (v + 1) (omega arith), high)
      at x (inr d) = rw (ne_eqb x v d, ltb_next x v d)

  -- v is low
  pub high_without : length (G v) < s → HighBelow s G ws (v + 1)
  unfolding is_high
  high_without l = record { long = h.long; says = h.says ∙ fun_ext (λ x. at x (eq_or x v)) }
    where
      at : (x : ℕ) → (x ≡ v) ⊎ (x ≡ v → ⊥) → (ltb x v && is_high s G x) ≡ (ltb x (v + 1) && is_high s G x)
      at x (inl q) =
          let low : is_high s G x ≡ false = ap (is_high s G) q ∙ lt-leb s (length (G v)) l in
          rw (low, and-false (ltb x v), and-false (ltb x (v + 1)))
      at x (inr d) = rw (ltb_next x v d)

  -- every node is below n
  pub high_all : {n : ℕ} → v ≡ n → member ws ≡ (λ x. ltb x n && is_high s G x)
  high_all e = rw e at h.says

-- the nodes below n that are not high are the low ones
pub low_set : (n s : ℕ) (G : Graph) {all high low : Nodes} → all ≡ (λ v. ltb v n) → high ≡ (λ v. ltb v n && is_high s G v)
    → low ≡ difference all high → low ≡ (λ v. ltb v n && is_low s G v)
unfolding difference is_low
low_set n s G a h l =
    l ∙ ap₂ (λ (f g : Nodes). λ v. f v && not (g v)) a h ∙ fun_ext (λ v. at (ltb v n) (is_high s G v))
  where
    at : (x y : Bool) → (x && not (x && y)) ≡ (x && not y)
    at true y = refl
    at false y = refl

-- below n, the set's members are the low nodes
pub low_are : (n s : ℕ) (G : Graph) (p : ℕ → Bool) → p ≡ (λ v. ltb v n && is_low s G v) → (v : ℕ) → v < n → p v ≡ is_low s G v
low_are n s G p e v h = ap (λ (f : Nodes). f v) e ∙ rw (lt-ltb v n h)
