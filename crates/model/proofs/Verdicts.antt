-- What the verdicts of the two-or-four test mean, and its count of searches. Holds for every threshold s.
-- Assumes nothing.
use mathlib.Core.Path.{◌≡◌, refl, sym, ap, subst}
use mathlib.Core.Logic.{◌⊎◌, inl, inr, ⊎_elim}
use mathlib.Core.Bool.{Bool, true, false, not}
use mathlib.Core.List.{List}
use Prim.Native.Nat.{ℕ, suc, ◌+◌, ◌≤◌, ◌<◌, zero-le, suc-le-suc}
use native.Mathlib.Nat.{le_trans, le_antisymm}
use native.Mathlib.Numerals.{add-one}
use native.Mathlib.Omega.{arith}
use borrow.Author.Tests.{ltb-false, eqb-false}
use lib.Dec.{T, eqb, ltb, eqb→eq, ltb→lt, T_not}
use lib.ListN.{length}
use Rattle.model.specs.declared.Verdict.{Verdict}
use Rattle.model.specs.declared.Verdict.TheVariants.{Parted, Long, Short}
use Rattle.model.specs.Basics.{none, has, any, up_to}
use Rattle.std.specs.Prelude.{if◌then◌else◌}
use Rattle.model.specs.Graph.{Edges, Chain, Unjoined, link, Fewest, fewest, linked}
use Rattle.model.specs.Survey.{Graph, neighbours_of, IsGraph, Accepted}
use Rattle.model.specs.Hubs.{is_high, is_low, closed, hubs}
use Rattle.model.specs.TwoOrFour.{sources, verdict_of, test_result}
use Rattle.model.specs.Demand.{VerdictRight}
use Rattle.model.proofs.Tests.{lt_or, no_false, false_no}
use Rattle.model.proofs.Lists.{has_head, has_tail, of_cons, any_of, of_any, has_up_to, of_up_to, First, found, nothing, first_below}
use Rattle.model.proofs.Chains.{append, turn, split_first, fewest_is, fewest_none}
use Rattle.model.proofs.Acceptance.{linked_has, linked_sym, linked_ends}
use Rattle.model.proofs.Covering.{hubs_cover, high_linked, hubs_below, distinct, ascending_distinct, hubs_distinct}

-- no two verdicts have the same number
abbrev code : Verdict → ℕ
code Parted = 0
code Long = 1
code Short = 2

-- what the searches show of a graph of n nodes
data Means (n : ℕ) (E : Edges) : Verdict → Type 0 where
  is_parted : (u v : ℕ) → u < n → v < n → Unjoined E u v → Means n E Parted
  is_long : (u v d : ℕ) → u < n → v < n → Fewest E u v d → 2 < d → ((a b : ℕ) → a < n → b < n → (j : ℕ) × Chain E j a b) → Means n E Long
  is_short : ((u v : ℕ) → u < n → v < n → (j : ℕ) × (j ≤ 3) × Chain E j u v) → Means n E Short

module _ (n s : ℕ) (G : Graph) (g : IsGraph n G) (size : n ≤ 1024) where
  -- the nodes searched from: the smallest low node and its neighbours, or the hubs of a graph without low nodes
  pub data Sources : List ℕ → Type 0 where
    round : (v : ℕ) → v < n → T (is_low s G v) → ((u : ℕ) → u < v → T (is_high s G u)) → Sources (closed G v)
    covers : ((v : ℕ) → v < n → T (is_high s G v)) → Sources (hubs n s G)

  pub source_cases : Sources (sources n s G)
  unfolding sources is_low
  source_cases = at (first_below (is_low s G) none n)
    where
      pick : {r : ℕ} → (r ≡ none → Sources (hubs n s G)) → ((r ≡ none → ⊥) → Sources (closed G r)) → (c : Bool) → eqb r none ≡ c
          → Sources (if c then hubs n s G else closed G r)
      pick {r} f h true e = f (eqb→eq _ _ (subst T (sym e) tt))
      pick {r} f h false e = h (eqb-false _ _ e)

      high : (b : Bool) → (T (not b) → ⊥) → T b
      high true f = tt
      high false f = f tt

      at : {r : ℕ} → First (is_low s G) none 0 n r → Sources (if eqb r none then hubs n s G else closed G r)
      at {r} (found lo hi t least) = pick (λ e. absurd (omega arith))
          (λ f. round r (omega arith) t (λ u h. high (is_high s G u) (λ q. least u zero-le h q))) (eqb r none) refl
      at {r} (nothing e miss) =
          pick (λ q. covers (λ v h. high (is_high s G v) (λ t. miss v zero-le (omega arith) t))) (λ f. absurd (f e)) (eqb r none) refl

  pub source_below : {hs : List ℕ} → Sources hs → (h : ℕ) → T (has h hs) → h < n
  unfolding closed
  source_below (round v b t l) h m = ⊎_elim (λ e. rw e b) (g.below v h b) (of_cons _ _ _ m)
  source_below (covers f) h m = hubs_below _ _ _ _ m

  -- where every source reaches every node within two links, every two nodes are within three
  within : {hs : List ℕ} → Sources hs → ((h v : ℕ) → T (has h hs) → v < n → (j : ℕ) × (j ≤ 2) × Chain (linked n G) j h v)
      → (u v : ℕ) → u < n → v < n → (j : ℕ) × (j ≤ 3) × Chain (linked n G) j u v
  unfolding closed
  within (round c b t l) near u v hu hv =
      let q = near c u (has_head _ _) hu in
      ⊎_elim
      (λ e.
      let r = near c v (has_head _ _) hv in
      (r.0, le_trans r.1 (omega arith), rw (← e) r.2))
      (λ p.
      let r = near p.1 v (has_tail _ _ _ (linked_has _ _ _ _ p.3)) hv in
      (p.0 + r.0, omega (arith, p.2, q.1, r.1), append (turn (linked_sym n G) p.4) r.2))
      (split_first q.2)
  within (covers f) near u v hu hv = ⊎_elim
      (λ m. let r = near u v m hv in (r.0, le_trans r.1 (omega arith), r.2))
      (λ c. let r = near c.0 v c.1 hv in (suc r.0, suc-le-suc r.1, link c.2 r.2))
      (high_linked n s G g u hu (f u hu))

  -- some node is searched from, if there is a node
  some_source : {hs : List ℕ} → Sources hs → (u : ℕ) → u < n → (h : ℕ) × T (has h hs)
  unfolding closed
  some_source (round c b t l) u hu = (c, has_head _ _)
  some_source (covers f) u hu = let c = hubs_cover _ _ _ _ hu (f u hu) in (c.0, c.2)

  verdict_means : Means n (linked n G) (verdict_of n G (sources n s G))
  unfolding verdict_of
  verdict_means = one (any missed hs) refl
    where
      hs : List ℕ
      hs = sources n s G

      distance : ℕ → ℕ → ℕ
      distance = fewest (linked n G) n

      missed : ℕ → Bool
      missed h = any (λ v. eqb (distance h v) none) (up_to n)

      deep : ℕ → Bool
      deep h = any (λ v. ltb 2 (distance h v)) (up_to n)

      fails : (p : ℕ → Bool) (l : List ℕ) → any p l ≡ false → (x : ℕ) → T (has x l) → p x ≡ false
      fails p l e x m = no_false _ (λ t. false_no (any p l) e (any_of _ _ _ m t))

      two : ((h : ℕ) → T (has h hs) → (v : ℕ) → v < n → distance h v ≡ none → ⊥) → (c : Bool) → any deep hs ≡ c
          → Means n (linked n G) (if c then Long else Short)
      two f true e =
          let i = of_any _ _ (subst T (sym e) tt) in
          let j = of_any (λ v. ltb 2 (distance i.0 v)) _ i.2 in
          let hv = of_up_to _ _ j.1 in
          let hh = source_below source_cases _ i.1 in
          is_long i.0 j.0 (distance i.0 j.0) hh hv
          (fewest_is _ _ _ (linked_ends _ _) hh _ (f i.0 i.1 j.0 hv))
          (ltb→lt _ _ j.2)
          (λ a b ha hb.
          let q = some_source source_cases _ ha in
          let hq = source_below source_cases _ q.1 in
          let way : (v : ℕ) → v < n → Chain (linked n G) (distance q.0 v) q.0 v =
          λ v h. (fewest_is _ _ _ (linked_ends _ _) hq _ (f q.0 q.1 v h)).0 in
          (distance q.0 a + distance q.0 b, append (turn (linked_sym _ _) (way a ha)) (way b hb)))
      two f false e = is_short (within source_cases (λ h v m hv. (
        distance h v,
        ltb-false _ _ (fails (λ v. ltb 2 (distance h v)) (up_to n) (fails deep hs e h m) v (has_up_to _ _ hv)),
        (fewest_is _ _ _ (linked_ends _ _) (source_below source_cases _ m) _ (f h m v hv)).0,
      )))

      one : (c : Bool) → any missed hs ≡ c
          → Means n (linked n G) (if c then Parted else if any deep hs then Long else Short)
      one true e =
          let i = of_any _ _ (subst T (sym e) tt) in
          let j = of_any (λ v. eqb (distance i.0 v) none) _ i.2 in
          let hh = source_below source_cases _ i.1 in
          is_parted i.0 j.0 hh (of_up_to _ _ j.1)
          (fewest_none _ _ _ (linked_ends _ _) hh (omega arith) j.0 (eqb→eq (distance i.0 j.0) _ j.2))
      one false e = two (λ h m v hv. eqb-false _ _
          (fails (λ v. eqb (distance h v) none) (up_to n) (fails missed hs e h m) v (has_up_to _ _ hv))) (any deep hs) refl

  -- what a verdict shows is what demand 3 asks of it
  means_right : {v : Verdict} → Means n (linked n G) v → VerdictRight n (linked n G) v
  means_right (is_parted u v hu hv f) = record {
    parted = (λ e. (u, v, hu, hv, f), λ p. refl);
    not_short = λ a b d ha hb m l e. omega (arith, ap code e);
    not_long = λ all e. omega (arith, ap code e);
  }
  means_right (is_long u v d hu hv m l joined) = record {
    parted =
        (λ e. absurd (omega (arith, ap code e)), λ p. let c = joined p.0 p.1 p.2 p.3 in absurd (p.4 c.0 c.1));
    not_short = λ a b k ha hb q h e. omega (arith, ap code e);
    not_long = λ all e. let x = all u v hu hv in let y = m.1 x.0 x.2.0 in omega (arith, x.1);
  }
  means_right (is_short near) = record {
    parted =
        (λ e. absurd (omega (arith, ap code e)), λ p. let c = near p.0 p.1 p.2 p.3 in absurd (p.4 c.0 c.2));
    not_short = λ a b d ha hb m l e. let c = near a b ha hb in let k = m.1 c.0 c.2 in omega (arith, c.1);
    not_long = λ all e. omega (arith, ap code e);
  }

  pub verdict_right : VerdictRight n (linked n G) (test_result n s G).verdict
  unfolding test_result
  verdict_right = means_right verdict_means

  -- ---- the count of searches

  -- the smallest low node's neighbours plus one, or the number of hubs where no node is low
  pub count_is : ((v : ℕ) → v < n → T (is_low s G v) → ((u : ℕ) → u < v → T (is_high s G u)) → (test_result n s G).searches ≡ length (G v) + 1)
      × (((v : ℕ) → v < n → T (is_high s G v)) → (test_result n s G).searches ≡ length (hubs n s G))
  unfolding test_result closed is_low
  count_is = (λ v b t l. low v b t l source_cases, λ f. high f source_cases)
    where
      low : (v : ℕ) → v < n → T (is_low s G v) → ((u : ℕ) → u < v → T (is_high s G u)) → {hs : List ℕ} → Sources hs
          → length hs ≡ length (G v) + 1
      low v b t l (round u c q m) = rw (smallest (lt_or u v) (lt_or v u)) (sym (add-one _))
        where
          smallest : (u < v) ⊎ (v ≤ u) → (v < u) ⊎ (u ≤ v) → u ≡ v
          smallest (inl h) k = absurd (T_not (is_high s G u) q (l u h))
          smallest (inr h) (inl k) = absurd (T_not (is_high s G v) t (m v k))
          smallest (inr h) (inr k) = le_antisymm k h
      low v b t l (covers f) = absurd (T_not (is_high s G v) t (f v b))

      high : ((v : ℕ) → v < n → T (is_high s G v)) → {hs : List ℕ} → Sources hs → length hs ≡ length (hubs n s G)
      high f (round u c q m) = absurd (T_not (is_high s G u) q (f u c))
      high f (covers g) = refl

-- and no node is searched from twice
pub sources_distinct : (n s : ℕ) (starts neighbours : List ℕ) → Accepted n starts neighbours
    → distinct (sources n s (neighbours_of starts neighbours))
unfolding closed
sources_distinct n s starts neighbours acc = at (source_cases n s (neighbours_of starts neighbours) acc.lists.graph acc.size)
  where
    at : {hs : List ℕ} → Sources n s (neighbours_of starts neighbours) acc.lists.graph acc.size hs → distinct hs
    at (round v b t l) =
        (λ m. acc.lists.loopless v v b m refl, ascending_distinct (neighbours_of starts neighbours v) (acc.lists.sorted v b))
    at (covers f) = hubs_distinct _ _ _
