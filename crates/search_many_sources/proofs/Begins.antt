-- How the search begins: each source has reached itself.
-- Assumes nothing.
use mathlib.Core.Path.{◌≡◌, refl, sym, ap, ap₂, ◌∙◌}
use mathlib.Core.Logic.{◌⊎◌, inl, inr, ⊎_elim}
use mathlib.Core.Bool.{Bool, true, false, ◌&&◌, ◌||◌, and-true, and-false, or-false}
use mathlib.Core.List.{List, []}
use Prim.Native.Nat.{ℕ, ◌+◌, ◌-◌, ◌*◌, ◌/◌, ◌%◌, ◌≤◌, ◌<◌, min}
use native.Mathlib.Nat.{suc-mul, mul-le-mul_right}
use native.Mathlib.Omega.{arith}
use borrow.Author.Tests.{eq-eqb, ne_eqb, lt-ltb, le-ltb, le-leb, leb-true, ltb-true, eqb-true}
use lib.Dec.{T, eqb, leb, ltb}
use lib.ListN.{length, get_or, set, replicate, length-replicate, get_or-replicate, get_or-eq_default}
use lib.Seq.{get_or-set_same, get_or-set_other}
use Rattle.std.specs.Prelude.{if◌then◌else◌}
use Rattle.model.specs.Graph.{Edges}
use Rattle.model.specs.Tables.{entry_at}
use Rattle.model.proofs.Entries.{get_d_same, place_inside}
use Rattle.model.proofs.Tests.{eq_or, lt_or, ltb_next, and_l, and_r, and_i, passes, same_test, T_true, true_T, no_false}
use Rattle.base_nodeset.proofs.Bits.{eqb_same, bit_of_zero}
use Rattle.search_source_sets.specs.SourceSets.{in_row, reached}
use Rattle.search_many_sources.specs.Levels.{in_group, is_source, reached_by, Begun, BegunAll, Unfilled}

-- ---- places in a table of rows of n entries

pub row_apart : (n u v c : ℕ) → u < v → c < n → u * n + c < v * n
row_apart n u v c h k = omega (arith, suc-mul u n, mul-le-mul_right n h)

same_row : (n u v c w : ℕ) → c < n → w < n → u * n + c ≡ v * n + w → u ≡ v
same_row n u v c w hc hw e = at (eq_or u v)
  where
    at : (u ≡ v) ⊎ (u ≡ v → ⊥) → u ≡ v
    at (inl q) = q
    at (inr d) = absurd (far (lt_or u v))
      where
        far : (u < v) ⊎ (v ≤ u) → ⊥
        far (inl q) = omega (arith, row_apart n u v c q hc)
        far (inr q) = let k : v < u = omega arith in omega (arith, row_apart n v u w k hw)

-- ---- the nodes of a group

pub group_is : (base c : ℕ) → T (in_group base c) → (base ≤ c) × (c < base + 256)
unfolding in_group
group_is base c t =
    (leb-true _ _ (T_true (leb base c) (and_l (leb base c) _ t)), ltb-true _ _ (T_true (ltb c (base + 256)) (and_r (leb base c) _ t)))

pub is_group : (base c : ℕ) → base ≤ c → c < base + 256 → in_group base c ≡ true
unfolding in_group
is_group base c h k = rw (le-leb base c h, lt-ltb c (base + 256) k)

pub source_not : (base : ℕ) (p : ℕ → Bool) (v : ℕ) → p v ≡ false → is_source base p v ≡ false
unfolding is_source
source_not base p v e = rw e (and-false (in_group base v))

pub source_is : (base : ℕ) (p : ℕ → Bool) (v : ℕ) → base ≤ v → v < base + 256 → p v ≡ true → is_source base p v ≡ true
unfolding is_source
source_is base p v h k e = rw (is_group base v h k, e) refl

-- ---- one node

module _ (n : ℕ) (s : ℕ → Bool) (v : ℕ) where
  pub begun_not : (R : Edges) (t : List ℕ) → s v ≡ false → Begun n s v R R t t
  begun_not R t e = record {
    reached = λ u c. sym (rw (e, and-false (eqb c v), and-false (eqb u v)) refl);
    rows = λ u c hu hc. sym (rw (e, and-false (eqb c v), and-false (eqb u v)) refl);
  }

  -- the bit of v at v
  unfoldable own : ℕ → ℕ → Bool
  own u c = eqb u v && (eqb c v && s v)

  own_at : (u c : ℕ) → s v ≡ true → u ≡ v → own u c ≡ eqb c v
  unfolding own
  own_at u c t e = rw (eq-eqb u v e, t) (and-true (eqb c v))

  own_off : (u c : ℕ) → (u ≡ v → c ≡ v → ⊥) → own u c ≡ false
  unfolding own
  own_off u c f = ⊎_elim
      (λ e. rw (ne_eqb c v (f e)) (and-false (eqb u v)))
      (λ d. rw (ne_eqb u v d) refl)
      (eq_or u v)

  module _ (base : ℕ) (is : s v ≡ true) (from : base ≤ v) (near-base : v < base + 256) (inside : v < n)
      (near : List (List ℕ)) (row' t : List ℕ) (place : v < length near) (size : length t ≡ n * n)
      (put : (k : ℕ) → in_row row' k ≡ (eqb k (v - base) || in_row (get_or near v []) k)) where
    -- in the group, it is put into its own row
    row_put : (u c : ℕ) → base ≤ c → reached (set near v row') u (c - base) ≡ (own u c || reached near u (c - base))
    unfolding reached
    row_put u c h = ⊎_elim at off (eq_or u v)
      where
        at : u ≡ v → in_row (get_or (set near v row') u []) (c - base) ≡ (own u c || in_row (get_or near u []) (c - base))
        at q =
            let same : eqb (c - base) (v - base) ≡ eqb c v =
            eqb_same (c - base) (v - base) c v (λ (z : c - base ≡ v - base). omega arith) (λ (z : c ≡ v). ap (λ (x : ℕ). x - base) z) in
            rw (q, get_or-set_same near v row' [] place, put, same, own_at v c is refl) refl

        off : (u ≡ v → ⊥) → in_row (get_or (set near v row') u []) (c - base) ≡ (own u c || in_row (get_or near u []) (c - base))
        off q = rw (get_or-set_other near v u row' [] q, own_off u c (λ a b. q a)) refl

    put_reached : (u c : ℕ) → reached_by base (set near v row') u c ≡ (own u c || reached_by base near u c)
    unfolding reached_by
    put_reached u c = ⊎_elim
        (λ g. rw (T_true (in_group base c) g) (row_put u c (group_is base c g).0))
        (λ f. rw (no_false (in_group base c) f) (sym (rw (own_off u c (λ a b. f (rw b (rw (is_group base v from near-base) tt)))) refl)))
        (passes (in_group base c))

    put_row : (u c : ℕ) → u < n → c < n → entry_at n (set t (v * n + v) 0) u c ≡ (if own u c then 0 else entry_at n t u c)
    unfolding entry_at
    put_row u c hu hc = ⊎_elim at off (eq_or (u * n + c) (v * n + v))
      where
        at : u * n + c ≡ v * n + v → get_or (set t (v * n + v) 0) (u * n + c) 0 ≡ (if own u c then 0 else get_or t (u * n + c) 0)
        at q =
            let same : u ≡ v = same_row n u v c v hc inside q in
            let col : c ≡ v = omega (arith, ap (λ (x : ℕ). x * n) same) in
            ap (λ (x : ℕ). get_or (set t (v * n + v) 0) x 0) q
            ∙ get_or-set_same t (v * n + v) 0 0 (omega (arith, place_inside n v v inside inside))
            ∙ sym (ap (λ (a : Bool). if a then 0 else get_or t (u * n + c) 0) (own_at u c is same ∙ eq-eqb c v col))

        off : (u * n + c ≡ v * n + v → ⊥) → get_or (set t (v * n + v) 0) (u * n + c) 0 ≡ (if own u c then 0 else get_or t (u * n + c) 0)
        off q =
            get_or-set_other t (v * n + v) (u * n + c) 0 0 q
            ∙ sym (ap (λ (a : Bool). if a then 0 else get_or t (u * n + c) 0)
            (own_off u c (λ (a : u ≡ v) (b : c ≡ v). q (ap₂ (λ (x y : ℕ). x * n + y) a b))))

    pub begun_put : Begun n s v (reached_by base near) (reached_by base (set near v row')) t (set t (v * n + v) 0)
    unfolding own
    begun_put = record { reached = put_reached; rows = put_row }

-- ---- the sources below v

module _ (n base : ℕ) (p : ℕ → Bool) where
  abbrev s : ℕ → Bool
  s = is_source base p

  pub record Beginning (t₀ : List ℕ) (near : List (List ℕ)) (t : List ℕ) (v : ℕ) : Type 0 where
    pub above : base ≤ v
    pub within : v ≤ min n (base + 256)
    pub size : length t ≡ n * n
    pub says : (u c : ℕ) → reached_by base near u c ≡ (ltb u v && (eqb u c && s c))
    pub rows : (u c : ℕ) → u < n → c < n → entry_at n t u c ≡ (if ltb u v && (eqb u c && s c) then 0 else entry_at n t₀ u c)

  source_group : (c : ℕ) → T (s c) → (base ≤ c) × (c < base + 256)
  unfolding is_source
  source_group c t = group_is base c (and_l (in_group base c) (p c) t)

  -- in empty rows nothing has reached a node
  none_reached : (u i : ℕ) → reached (replicate 1024 (replicate 16 0)) u i ≡ false
  unfolding reached in_row
  none_reached u i = ⊎_elim
      (λ h. rw (get_or-replicate 1024 u (replicate {A = ℕ} 16 0) [] h, get_d_same 16 (i % 16) 0) (bit_of_zero (i / 16)))
      (λ h.
      let past : length (replicate 1024 (replicate {A = ℕ} 16 0)) ≤ u = omega (arith, length-replicate 1024 (replicate {A = ℕ} 16 0)) in
      rw (get_or-eq_default (replicate 1024 (replicate {A = ℕ} 16 0)) [] past) (bit_of_zero (i / 16)))
      (lt_or u 1024)

  -- no source is below the group, and none behind its end
  below_none : (u c : ℕ) → (ltb u base && (eqb u c && s c)) ≡ false
  below_none u c = no_false _ (λ t.
      let low = ltb-true u base (T_true _ (and_l (ltb u base) _ t)) in
      let rest = and_r (ltb u base) _ t in
      let same = eqb-true u c (T_true _ (and_l (eqb u c) _ rest)) in
      let within_group = source_group c (and_r (eqb u c) _ rest) in
      omega (arith, low, same, within_group.0))

  pub beginning_none : (near : List (List ℕ)) (t : List ℕ) → base < n → near ≡ replicate 1024 (replicate 16 0) → length t ≡ n * n
      → Beginning t near t base
  unfolding reached_by
  beginning_none near t h e l = record {
    above = omega arith;
    within = omega arith;
    size = l;
    says = λ u c.
        ap (λ (x : List (List ℕ)). in_group base c && reached x u (c - base)) e
        ∙ ap (λ (x : Bool). in_group base c && x) (none_reached u (c - base))
        ∙ and-false (in_group base c)
        ∙ sym (below_none u c);
    rows = λ u c hu hc. sym (rw (below_none u c) refl);
  }

  diagonal : (u c v : ℕ) → ((eqb u v && (eqb c v && s v)) || (ltb u v && (eqb u c && s c))) ≡ (ltb u (v + 1) && (eqb u c && s c))
  diagonal u c v = ⊎_elim (λ q. at q) (λ d. rw (ne_eqb u v d, ltb_next u v d) refl) (eq_or u v)
    where
      at : u ≡ v → ((eqb u v && (eqb c v && s v)) || (ltb u v && (eqb u c && s c))) ≡ (ltb u (v + 1) && (eqb u c && s c))
      at q = rw (eq-eqb u v q, le-ltb u v (omega arith), lt-ltb u (v + 1) (omega arith)) (or-false (eqb c v && s v) ∙ ⊎_elim
          (λ (e : c ≡ v). rw (eq-eqb c v e, eq-eqb u c (q ∙ sym e)) (ap s (sym e)))
          (λ (d : c ≡ v → ⊥). rw (ne_eqb c v d, ne_eqb u c (λ (z : u ≡ c). d (sym z ∙ q))) refl)
          (eq_or c v))

  module _ (t₀ : List ℕ) (near : List (List ℕ)) (t : List ℕ) (v : ℕ) (b : Beginning t₀ near t v) where
    pub beginning_more : (near' : List (List ℕ)) (t' : List ℕ) → v < min n (base + 256) → length t' ≡ length t
        → Begun n (is_source base p) v (reached_by base near) (reached_by base near') t t' → Beginning t₀ near' t' (v + 1)
    beginning_more near' t' h m g = record {
      above = omega (arith, b.above);
      within = omega arith;
      size = m ∙ b.size;
      says = λ u c. g.reached u c ∙ ap (λ (x : Bool). (eqb u v && (eqb c v && s v)) || x) (b.says u c) ∙ diagonal u c v;
      rows = λ u c hu hc.
          g.rows u c hu hc
          ∙ ap (λ (x : ℕ). if eqb u v && (eqb c v && s v) then 0 else x) (b.rows u c hu hc)
          ∙ either (eqb u v && (eqb c v && s v)) (ltb u v && (eqb u c && s c)) (entry_at n t₀ u c)
          ∙ ap (λ (x : Bool). if x then 0 else entry_at n t₀ u c) (diagonal u c v);
    }
      where
        either : (x y : Bool) (z : ℕ) → (if x then 0 else if y then 0 else z) ≡ (if x || y then 0 else z)
        either true y z = refl
        either false y z = refl

    -- all sources are below the end
    all_below : min n (base + 256) ≤ v → (u c : ℕ) → u < n → (ltb u v && (eqb u c && s c)) ≡ (eqb u c && s c)
    all_below h u c hu = same_test _ _ (λ t. and_r (ltb u v) _ t) (λ t. and_i (ltb u v) _ (
        let same = eqb-true u c (T_true _ (and_l (eqb u c) _ t)) in
        let within_group = source_group c (and_r (eqb u c) _ t) in
        true_T (ltb u v) (lt-ltb u v (omega (arith, same, within_group.1)))) t)

    pub beginning_all : min n (base + 256) ≤ v → Unfilled n (is_source base p) t₀ → BegunAll n (is_source base p) (reached_by base near) t₀ t
    beginning_all h none_before = record {
      reached = λ u c hu. b.says u c ∙ all_below h u c hu;
      rows = λ u c hu hc t.
          b.rows u c hu hc
          ∙ ap₂ (λ (x : Bool) (y : ℕ). if x then 0 else y)
          (all_below h u c hu ∙ ap (λ (x : Bool). eqb u c && x) (T_true (s c) t) ∙ and-true (eqb u c)) (none_before u c hu hc t);
      rest = λ u c hu hc f.
          b.rows u c hu hc
          ∙ ap (λ (x : Bool). if x then 0 else entry_at n t₀ u c)
          (all_below h u c hu ∙ ap (λ (x : Bool). eqb u c && x) (no_false (s c) f) ∙ and-false (eqb u c));
    }
