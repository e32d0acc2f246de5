-- What the entries of Full and Low say: fewest links, from hubs and between low nodes.
-- Assumes nothing.
use mathlib.Core.Path.{◌≡◌, refl, sym, ap, ap₂, ◌∙◌, fun_ext}
use mathlib.Core.Logic.{◌⊎◌, inl, inr, ⊎_elim}
use mathlib.Core.Bool.{Bool, true, false, ◌&&◌}
use Prim.Native.Nat.{ℕ, ◌<◌}
use native.Mathlib.Nat.{le_antisymm}
use borrow.Author.Tests.{lt-ltb}
use lib.Dec.{T, ltb}
use Rattle.model.specs.Basics.{none, has}
use Rattle.std.specs.Prelude.{if◌then◌else◌}
use Rattle.model.specs.Graph.{Edges, between, Chain, here, link, Fewest, fewest, linked}
use Rattle.model.specs.Survey.{Graph, IsGraph}
use Rattle.model.specs.Hubs.{is_low, hubs}
use Rattle.model.specs.Tables.{table, entry_at, full_table, low_links, low_table}
use Rattle.model.proofs.Tests.{and_l, and_r, and_i, passes, no_false}
use Rattle.model.proofs.Chains.{fewest_is, fewest_cases, fewest_missing}
use Rattle.model.proofs.Acceptance.{linked_is, linked_ends}
use Rattle.model.proofs.Entries.{entry_table}

-- tests that agree on the nodes below n leave the same links
pub between_same : (p q : ℕ → Bool) (n : ℕ) (G : Graph) → ((v : ℕ) → v < n → p v ≡ q v) → between p (linked n G) ≡ between q (linked n G)
between_same p q n G e = fun_ext (λ a. fun_ext (λ b. at a b (passes (linked n G a b))))
  where
    at : (a b : ℕ) → T (linked n G a b) ⊎ (T (linked n G a b) → ⊥) → between p (linked n G) a b ≡ between q (linked n G) a b
    at a b (inl t) = let l = linked_is _ _ _ _ t in ap₂ (λ (x y : Bool). (x && y) && linked n G a b) (e a l.first) (e b l.second)
    at a b (inr f) = rw (no_false (linked n G a b) f) (none_left (p a && p b) ∙ sym (none_left (q a && q b)))
      where
        none_left : (x : Bool) → (x && false) ≡ false
        none_left true = refl
        none_left false = refl

-- the test that every node below n passes leaves all links
pub all_allowed : (p : ℕ → Bool) (n : ℕ) (G : Graph) → p ≡ (λ v. ltb v n) → between p (linked n G) ≡ linked n G
all_allowed p n G e =
    between_same _ _ _ _ (λ v h. ap (λ (f : ℕ → Bool). f v) e ∙ lt-ltb _ _ h)

-- links between allowed nodes: a chain from an allowed node ends at one, so a search from it misses the others
module _ (p : ℕ → Bool) where
  pub chain_allowed : (E : Edges) {k a b : ℕ} → Chain (between p E) k a b → T (p a) → T (p b)
  chain_allowed E here t = t
  chain_allowed E (link {a = a} {b = b} u r) t = chain_allowed E r (and_r (p a) (p b) (and_l (p a && p b) (E a b) u))

  pub between_ends : (n : ℕ) (G : Graph) (u v : ℕ) → u < n → T (between p (linked n G) u v) → v < n
  between_ends n G u v h t = linked_ends n G u v h (and_r (p u && p v) (linked n G u v) t)

  pub between_missed : (n : ℕ) (G : Graph) (a b : ℕ) → a < n → T (p a) → (T (p b) → ⊥) → fewest (between p (linked n G)) n a b ≡ none
  between_missed n G a b h t f = fewest_missing _ n a (between_ends n G) h b (λ k c. f (chain_allowed _ c t))

pub fewest_unique : {E : Edges} {a b d e : ℕ} → Fewest E a b d → Fewest E a b e → d ≡ e
fewest_unique {d = d} {e = e} p q = le_antisymm (p.1 e q.0) (q.1 d p.0)

-- a table of fewest links where a test passes, and of none elsewhere
module _ (n : ℕ) (t : ℕ → ℕ → Bool) (E : Edges) (ends : (u v : ℕ) → u < n → T (E u v) → v < n) where
  guarded : ℕ → ℕ → ℕ
  guarded a b = entry_at n (table n (λ a b. if t a b then fewest E n a b else none)) a b

  guarded_is : {a b : ℕ} → a < n → b < n → (guarded a b ≡ none → ⊥) → T (t a b) × Fewest E a b (guarded a b)
  unfolding guarded
  guarded_is {a} {b} ha hb f = at (t a b) (entry_table _ _ _ _ ha hb)
    where
      at : (c : Bool) → guarded a b ≡ (if c then fewest E n a b else none) → T c × Fewest E a b (guarded a b)
      at true e = (tt, rw e (fewest_is _ _ _ ends ha _ (λ q. f (e ∙ q))))
      at false e = absurd (f e)

  guarded_joined : {a b k : ℕ} → a < n → b < n → T (t a b) → Chain E k a b → (guarded a b < n) × Fewest E a b (guarded a b)
  unfolding guarded
  guarded_joined {a} {b} {k} ha hb m c = at (t a b) m (entry_table _ _ _ _ ha hb)
    where
      at : (c : Bool) → T c → guarded a b ≡ (if c then fewest E n a b else none) → (guarded a b < n) × Fewest E a b (guarded a b)
      at true m e = rw e (⊎_elim (λ p. p) (λ p. absurd (p.1 k c)) (fewest_cases _ _ _ ends ha _))
      at false m e = absurd m

module _ (n s : ℕ) (G : Graph) (g : IsGraph n G) where
  -- both ends of a low link are low
  pub both_low : (u v : ℕ) → T (low_links n s G u v) → T (is_low s G u) × T (is_low s G v)
  unfolding low_links
  both_low u v t =
      let both : T (is_low s G u && is_low s G v) = and_l (is_low s G u && is_low s G v) _ t in
      (and_l (is_low s G u) _ both, and_r (is_low s G u) _ both)

  pub low_widen : (u v : ℕ) → T (low_links n s G u v) → T (linked n G u v)
  unfolding low_links
  low_widen u v t = and_r (is_low s G u && is_low s G v) _ t

  pub low_ends : (u v : ℕ) → u < n → T (low_links n s G u v) → v < n
  low_ends u v h t = linked_ends _ _ _ _ h (low_widen _ _ t)

-- the tables of a graph
module _ {n : ℕ} (s : ℕ) {G : Graph} (g : IsGraph n G) where
  pub full_is : {h b : ℕ} → h < n → b < n → (entry_at n (full_table n s G) h b ≡ none → ⊥)
      → T (has h (hubs n s G)) × Fewest (linked n G) h b (entry_at n (full_table n s G) h b)
  unfolding full_table guarded
  full_is = guarded_is _ (λ h b. has h (hubs n s G)) _ (linked_ends _ _)

  pub full_joined : {h b k : ℕ} → h < n → b < n → T (has h (hubs n s G)) → Chain (linked n G) k h b
      → (entry_at n (full_table n s G) h b < n) × Fewest (linked n G) h b (entry_at n (full_table n s G) h b)
  unfolding full_table guarded
  full_joined = guarded_joined _ (λ h b. has h (hubs n s G)) _ (linked_ends _ _)

  pub low_is : {a b : ℕ} → a < n → b < n → (entry_at n (low_table n s G) a b ≡ none → ⊥)
      → T (is_low s G a) × T (is_low s G b) × Fewest (low_links n s G) a b (entry_at n (low_table n s G) a b)
  unfolding low_table guarded
  low_is {a} {b} ha hb f =
      let r = guarded_is _ (λ a b. is_low s G a && is_low s G b) _ (low_ends _ _ _ g) ha hb f in
      (and_l (is_low s G a) _ r.0, and_r (is_low s G a) _ r.0, r.1)

  pub low_joined : {a b k : ℕ} → a < n → b < n → T (is_low s G a) → T (is_low s G b) → Chain (low_links n s G) k a b
      → (entry_at n (low_table n s G) a b < n) × Fewest (low_links n s G) a b (entry_at n (low_table n s G) a b)
  unfolding low_table guarded
  low_joined {a} {b} ha hb la lb =
      guarded_joined _ (λ a b. is_low s G a && is_low s G b) _ (low_ends _ _ _ g) ha hb (and_i (is_low s G a) _ la lb)
