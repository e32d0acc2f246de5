-- The report table of a survey: none exactly where no chain joins the pair, else from the fewest links to two more.
-- Assumes nothing. Holds for every threshold s.
use mathlib.Core.Path.{◌≡◌, refl, sym, ap, ◌∙◌, subst}
use mathlib.Core.Logic.{◌⊎◌, inl, inr, ⊎_elim}
use mathlib.Core.Bool.{Bool, not, ◌&&◌, ◌||◌}
use mathlib.Core.List.{List, [], ◌∷◌}
use Prim.Native.Nat.{ℕ, zero, suc, ◌+◌, ◌≤◌, ◌<◌, zero-le, min}
use native.Mathlib.Nat.{zero-add, suc-add, le_refl, le_trans, min-le_left, min-le_right}
use native.Mathlib.Omega.{arith}
use native.Mathlib.Decide.{dec_le}
use borrow.Author.Tests.{eqb-true, eqb-false, eq-eqb, ne_eqb, leb-true, leb-false}
use lib.Dec.{T, eqb, leb, eqb→eq, not_T}
use Rattle.model.specs.Basics.{none, has}
use Rattle.model.specs.Graph.{Edges, between, Chain, here, link, Fewest, linked}
use Rattle.model.specs.Survey.{Graph, IsGraph}
use Rattle.model.specs.Hubs.{is_high, is_low, hubs}
use Rattle.model.specs.Tables.{entry_at, full_table, low_links, low_table, sum, via, report_table, least, report_entry}
use Rattle.model.specs.Demand.{Allowed, least_needed}
use Rattle.model.proofs.Tests.{and_i, or_e, true_T, T_true, of_or_false, passes, eq_or, lt_or, picked}
use Rattle.model.proofs.Lists.{of_cons, has_head, has_tail}
use Rattle.model.proofs.Chains.{append, chain_zero, chain_one, turn, widen, inside, fewest_cases}
use Rattle.model.proofs.Acceptance.{linked_ends, linked_sym}
use Rattle.model.proofs.Entries.{entry_table}
use Rattle.model.proofs.Covering.{high_linked, hubs_below}
use Rattle.model.proofs.TableLaws.{full_is, full_joined, low_is, low_joined, low_widen}

-- ---- the least of a list of candidates

module _ (f : ℕ → ℕ) (base : ℕ) where
  pub least_base : (hs : List ℕ) → least f base hs ≤ base
  least_base [] = le_refl _
  least_base (h ∷ hs) = le_trans (min-le_right _ _) (least_base hs)

  least_at : (hs : List ℕ) (h : ℕ) → T (has h hs) → least f base hs ≤ f h
  unfolding has
  least_at [] h m = absurd m
  least_at (x ∷ xs) h m = ⊎_elim
      (λ e. rw e (min-le_left _ _))
      (λ r. le_trans (min-le_right _ _) (least_at xs h r))
      (of_cons _ _ xs m)

  pub least_cases : (hs : List ℕ) → (least f base hs ≡ base) ⊎ ((h : ℕ) × T (has h hs) × (least f base hs ≡ f h))
  least_cases [] = inl refl
  least_cases (x ∷ xs) = go (dec_le (f x) (least f base xs)) (least_cases xs)
    where
      go : Dec (f x ≤ least f base xs) → (least f base xs ≡ base) ⊎ ((h : ℕ) × T (has h xs) × (least f base xs ≡ f h))
          → (min (f x) (least f base xs) ≡ base) ⊎ ((h : ℕ) × T (has h (x ∷ xs)) × (min (f x) (least f base xs) ≡ f h))
      go (yes l) r = inr (x, has_head _ _, omega arith)
      go (no l) (inl e) = inl (omega arith)
      go (no l) (inr r) = inr (r.0, has_tail _ _ _ r.1, omega (arith, r.2))

-- ---- a sum of two entries

pub data Sum (x y z : ℕ) : Type 0 where
  whole : (x ≡ none → ⊥) → (y ≡ none → ⊥) → z ≡ x + y → Sum x y z
  part : z ≡ none → (x ≡ none) ⊎ (y ≡ none) → Sum x y z

pub sum_is : (x y : ℕ) → Sum x y (sum x y)
unfolding sum
sum_is x y =
    picked (Sum x y) (eqb x none || eqb y none) _ _
    (λ e. part refl (⊎_elim
    (λ t. inl (eqb→eq x none t)) (λ t. inr (eqb→eq y none t)) (or_e (eqb x none) (eqb y none) (true_T (eqb x none || eqb y none) e))))
    (λ e. let h = of_or_false (eqb x none) (eqb y none) e in whole (eqb-false x none h.0) (eqb-false y none h.1) refl)

-- ---- a chain goes through low nodes only, or through a high one

data Split (E : Edges) (high : ℕ → Bool) (k a b : ℕ) : Type 0 where
  lows : T (not (high a)) → T (not (high b)) → Chain (between (λ v. not (high v)) E) k a b → Split E high k a b
  through : (w i j : ℕ) → T (high w) → Chain E i a w → Chain E j w b → i + j ≡ k → Split E high k a b

split : (E : Edges) (high : ℕ → Bool) {k a b : ℕ} → Chain E k a b → Split E high k a b
split E high {a = a} here = ⊎_elim
    (λ t. through a 0 0 t here here refl)
    (λ f. lows (not_T (high a) f) (not_T (high a) f) here)
    (passes (high a))
split E high {a = a} {b = c} (link {k = k} {b = b} t r) = go (passes (high a)) (split E high r)
  where
    go : T (high a) ⊎ (T (high a) → ⊥) → Split E high k b c → Split E high (suc k) a c
    go (inl h) rest = through a 0 (suc k) h here (link t r) (zero-add _)
    go (inr f) (lows p q l) =
        lows (not_T (high a) f) q (link (and_i (not (high a) && not (high b)) _ (and_i (not (high a)) _ (not_T (high a) f) p) t) l)
    go (inr f) (through w i j h p q e) = through w (suc i) j h (link t p) q (suc-add _ _ ∙ ap suc e)

-- ---- the survey's tables

module _ {n : ℕ} (s : ℕ) {G : Graph} (g : IsGraph n G) where
  -- ---- the report

  unfoldable pub routes : ℕ → ℕ → ℕ
  routes a b = least (via n (full_table n s G) a b) (entry_at n (low_table n s G) a b) (hubs n s G)

  pub report_entry_lem : {a b : ℕ} → a < n → b < n
      → entry_at n (report_table n s G) a b ≡ report_entry n G (full_table n s G) (low_table n s G) (hubs n s G) a b
  unfolding report_table
  report_entry_lem = entry_table n (report_entry n G (full_table n s G) (low_table n s G) (hubs n s G)) _ _

  -- linked nodes report 1, where they differ
  pub linked_report : {a b : ℕ} → a < n → b < n → (a ≡ b → ⊥) → T (linked n G a b) → entry_at n (report_table n s G) a b ≡ 1
  linked_report {a} {b} ha hb d t = rw (ne_eqb a b d, T_true (linked n G a b) t) at (report_entry_lem ha hb)

  -- a route through a hub, if there is one, is a chain of as many links
  via_chain : {a b h : ℕ} → a < n → b < n → h < n → (via n (full_table n s G) a b h ≡ none → ⊥)
      → Chain (linked n G) (via n (full_table n s G) a b h) a b
  unfolding via
  via_chain {a} {b} {h} ha hb hh f = go (sum_is _ _) f
    where
      x : ℕ
      x = entry_at n (full_table n s G) h a

      y : ℕ
      y = entry_at n (full_table n s G) h b

      go : {z : ℕ} → Sum x y z → (f : z ≡ none → ⊥) → Chain (linked n G) z a b
      go (whole p q e) f = rw e (append (turn (linked_sym _ _) (full_is s g hh ha p).1.0) (full_is s g hh hb q).1.0)
      go (part e p) f = absurd (f e)

  -- a report that is not none is the number of links of some chain
  pub report_chain : {a b : ℕ} → a < n → b < n → (entry_at n (report_table n s G) a b ≡ none → ⊥)
      → Chain (linked n G) (entry_at n (report_table n s G) a b) a b
  report_chain {a} {b} ha hb = subst P (sym (report_entry_lem ha hb)) (picked P (eqb a b) _ _
      (λ e f. rw (← eqb-true a b e) here)
      (λ _. picked P (linked n G a b) _ _
      (λ t f. link (true_T _ t) here)
      (λ _. ⊎_elim
      (λ e. subst P (sym e) (λ f. widen (low_widen n s G g) (low_is s g ha hb f).2.0))
      (λ r. subst P (sym r.2) (via_chain ha hb (hubs_below n G s r.0 r.1)))
      (least_cases _ _ (hubs n s G)))))
    where
      P : ℕ → Type 0
      P k = (k ≡ none → ⊥) → Chain (linked n G) k a b

  -- and no other nodes report 1
  pub report_one : {a b : ℕ} → a < n → b < n → entry_at n (report_table n s G) a b ≡ 1 → T (linked n G a b)
  report_one ha hb e = chain_one (rw e at (report_chain ha hb (λ q. omega (arith, e, q))))

  -- where a chain of at most one link joins the pair, the report is no more
  report_small : {a b k : ℕ} → a < n → b < n → k ≤ 1 → Chain (linked n G) k a b → entry_at n (report_table n s G) a b ≤ k
  report_small {a} {b} {k} ha hb h c = at k h c
    where
      own : a ≡ b → entry_at n (report_table n s G) a b ≡ 0
      own e = rw (eq-eqb a b e) at (report_entry_lem ha hb)

      at : (k : ℕ) → k ≤ 1 → Chain (linked n G) k a b → entry_at n (report_table n s G) a b ≤ k
      at zero h c = omega (arith, own (chain_zero c))
      at (suc zero) h c = ⊎_elim (λ e. omega (arith, own e)) (λ d. omega (arith, linked_report ha hb d (chain_one c))) (eq_or a b)
      at (suc (suc k)) h c = absurd (omega (arith, h))

  -- a report of at most 2 is the fewest links
  pub report_exact : {a b : ℕ} → a < n → b < n → entry_at n (report_table n s G) a b ≤ 2
      → Fewest (linked n G) a b (entry_at n (report_table n s G) a b)
  report_exact {a} {b} ha hb h = (
    report_chain ha hb (λ e. omega (arith, h, e)),
    λ k c. ⊎_elim (λ few. report_small ha hb (omega (arith, few)) c) (λ more. omega (arith, h, more)) (lt_or k 2),
  )

  -- where a chain of k links joins the pair, the report is at most k + 2
  pub report_near : {a b k : ℕ} → n ≤ 1024 → a < n → b < n → Chain (linked n G) k a b → entry_at n (report_table n s G) a b ≤ k + 2
  unfolding is_low low_links routes via
  report_near {a} {b} {k} size ha hb c =
      subst P (sym (report_entry_lem ha hb)) (picked P (eqb a b) _ _ (λ _. zero-le) (λ _.
      picked P (linked n G a b) _ _ (λ _. omega arith) (λ _. near (split (linked n G) (is_high s G) c))))
    where
      P : ℕ → Type 0
      P x = x ≤ k + 2

      -- a hub that is the high node w or is linked to it
      spoke : (w : ℕ) → w < n → T (is_high s G w) → (h : ℕ) × (h < n) × T (has h (hubs n s G)) × (e : ℕ) × (e ≤ 1) × Chain (linked n G) e h w
      spoke w hw t = ⊎_elim
          (λ m. (w, hw, m, 0, zero-le, here))
          (λ c. (c.0, linked_ends _ _ _ _ hw c.2, c.1, 1, le_refl _, link (linked_sym _ _ _ _ c.2) here))
          (high_linked n s G g w hw t)

      near : Split (linked n G) (is_high s G) k a b → routes a b ≤ k + 2
      near (lows p q l) =
          le_trans (least_base _ _ (hubs n s G)) (le_trans ((low_joined s g ha hb p q l).1.1 k l) (omega arith))
      near (through w i j t p q e) =
          let hw : w < n = inside (linked_ends n G) ha p in
          let r = spoke w hw t in
          let h = r.0 in
          let ca = append r.5 (turn (linked_sym n G) p) in
          let cb = append r.5 q in
          let fa = full_joined s g r.1 ha r.2 ca in
          let fb = full_joined s g r.1 hb r.2 cb in
          le_trans (least_at _ _ (hubs n s G) h r.2)
          (bound (sum_is _ _) r.3 r.4 e (fa.1.1 (r.3 + i) ca, fa.0)
          (fb.1.1 (r.3 + j) cb, fb.0))
        where
          bound : {x y z : ℕ} → Sum x y z → (d : ℕ) → d ≤ 1 → i + j ≡ k → (x ≤ d + i) × (x < n) → (y ≤ d + j) × (y < n) → z ≤ k + 2
          bound (whole p q e) d l f xs ys = omega arith
          bound (part e (inl q)) d l f xs ys = absurd (omega arith)
          bound (part e (inr q)) d l f xs ys = absurd (omega arith)

  -- and no chain has fewer links than the report leaves open
  pub report_least : {a b k : ℕ} → n ≤ 1024 → a < n → b < n → Chain (linked n G) k a b → least_needed (entry_at n (report_table n s G) a b) ≤ k
  unfolding least_needed
  report_least {a} {b} {k} size ha hb c = at (lt_or k 2)
    where
      r : ℕ
      r = entry_at n (report_table n s G) a b

      P : ℕ → Type 0
      P x = x ≤ k

      at : (k < 2) ⊎ (2 ≤ k) → least_needed r ≤ k
      at (inl few) =
          let small = report_small ha hb (omega (arith, few)) c in
          picked P (leb r 2) _ _ (λ _. small) (λ e. absurd (omega (arith, small, few, leb-false r 2 e)))
      at (inr more) = picked P (leb r 2) _ _ (λ e. omega (arith, more, leb-true r 2 e)) (λ _.
          picked P (leb r 4) _ _ (λ _. more) (λ _. omega (arith, report_near size ha hb c)))

-- none exactly where no chain joins the pair; else at least the fewest links, and at most two more
pub allowed : (n s : ℕ) (G : Graph) → IsGraph n G → n ≤ 1024 → (a b : ℕ) → a < n → b < n
    → Allowed (linked n G) a b (entry_at n (report_table n s G) a b)
allowed n s G g size a b ha hb = record {
  no_route = (λ e k c. far k c e, λ f. ⊎_elim (λ e. e) (λ d. absurd (f r (report_chain s g ha hb d))) (eq_or r none));
  near = λ d m. (m.1 r (report_chain s g ha hb (λ e. far d m.0 e)), report_near s g size ha hb m.0);
}
  where
    r : ℕ
    r = entry_at n (report_table n s G) a b

    -- a joined pair is less than n apart, so its report is far below none
    far : (k : ℕ) → Chain (linked n G) k a b → r ≡ none → ⊥
    far k c e = ⊎_elim
        (λ p. omega (arith, p.0, report_near s g size ha hb p.1.0)) (λ p. p.1 k c)
        (fewest_cases (linked n G) n a (linked_ends n G) ha b)
