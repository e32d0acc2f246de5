-- One level: a node's part, and all nodes' parts in turn.
-- Assumes nothing.
use mathlib.Core.Path.{◌≡◌, refl, sym, ap, ap₂, ◌∙◌, subst}
use mathlib.Core.Logic.{◌⊎◌, inl, inr, ⊎_elim}
use mathlib.Core.Bool.{Bool, true, false, not, ◌&&◌, ◌||◌, or_comm, and-false}
use mathlib.Core.List.{List, []}
use Prim.Native.Nat.{ℕ, ◌+◌, ◌-◌, ◌*◌, ◌≤◌, ◌<◌, min}
use native.Mathlib.Nat.{suc-mul, mul-le-mul_right}
use native.Mathlib.Omega.{arith}
use borrow.Rule.Slice.PartMut.{mid_of, put_mid, mid_len}
use lib.Dec.{T}
use lib.ListN.{length, get_or, set}
use lib.Seq.{get_or-set_same, get_or-set_other}
use Rattle.model.specs.Basics.{any}
use Rattle.std.specs.Prelude.{if◌then◌else◌}
use Rattle.model.specs.Graph.{Edges}
use Rattle.model.specs.Survey.{Graph}
use Rattle.model.specs.Tables.{entry_at}
use Rattle.model.proofs.Lists.{of_any}
use Rattle.model.proofs.Loops.{below_next}
use Rattle.model.proofs.Tests.{no_false, T_true, passes, lt_or, of_or_false}
use Rattle.base_lists.proofs.PartEntries.{mid_at, put_before, put_after, put_within}
use Rattle.base_lists.proofs.TableRows.{row_within}
use Rattle.search_source_sets.specs.SourceSets.{in_row, reached, RowLeft}
use Rattle.search_source_sets.proofs.Joining.{covers_none}
use Rattle.search_many_sources.specs.Levels.{in_group, reached_by, reached_next, is_new, Step, Level}
use Rattle.search_many_sources.proofs.Begins.{row_apart, group_is, is_group}

-- ---- the rows of a node's neighbours, if it is allowed

pub own_not : (a b c : Bool) → a ≡ false → c ≡ ((a && b) || c)
own_not a b c e = rw e refl

pub own_put : (p : ℕ → Bool) (l l' : List ℕ) (a c r : Bool) → a ≡ true → l ≡ l' → r ≡ (any p l || c) → r ≡ ((a && any p l') || c)
own_put p l l' a c r e o h = h ∙ ap (λ (k : List ℕ). any p k || c) o ∙ sym (rw e refl)

-- ---- a node's part

module _ (n : ℕ) (p : ℕ → Bool) (G : Graph) (base d v : ℕ) (near far : List (List ℕ)) (s₂ s₃ : List ℕ) (found : ℕ)
    (place : v < length far) (second : (j : ℕ) → in_row s₂ j ≡ ((p v && any (λ x. reached near x j) (G v)) || reached near v j))
    (left : RowLeft (get_or near v []) s₂ s₃ found) where
  abbrev R : Edges
  R = reached_by base near

  abbrev far' : List (List ℕ)
  far' = set far v s₂

  row_next : (j : ℕ) → in_row s₂ j ≡ (reached near v j || (p v && any (λ x. reached near x j) (G v)))
  row_next j = second j ∙ or_comm (p v && any (λ x. reached near x j) (G v)) (reached near v j)

  put_here : (j : ℕ) → reached far' v j ≡ in_row s₂ j
  unfolding reached
  put_here j = ap (λ (r : List ℕ). in_row r j) (get_or-set_same far v s₂ [] place)

  put_others : (u j : ℕ) → (u ≡ v → ⊥) → reached far' u j ≡ reached far u j
  unfolding reached
  put_others u j d = ap (λ (r : List ℕ). in_row r j) (get_or-set_other far v u s₂ [] d)

  -- outside the group no source has reached a node
  outside_next : (c : ℕ) → in_group base c ≡ false → reached_next p G R v c ≡ false
  unfolding reached_next reached_by
  outside_next c e =
      rw e (ap (λ (x : Bool). p v && x) (no_false (any (λ x. false) (G v)) (λ t. (of_any (λ x. false) (G v) t).2)) ∙ and-false (p v))

  outside_new : (c : ℕ) → in_group base c ≡ false → is_new p G R v c ≡ false
  unfolding is_new
  outside_new c e = ap (λ (x : Bool). x && not (R v c)) (outside_next c e)

  inside_next : (c : ℕ) → in_group base c ≡ true → in_row s₂ (c - base) ≡ reached_next p G R v c
  unfolding reached_next reached_by
  inside_next c e = row_next (c - base) ∙ sym (rw e)

  inside_new : (c : ℕ) → T (in_group base c) → in_row s₃ (c - base) ≡ is_new p G R v c
  unfolding is_new reached_by reached
  inside_new c t =
      let e = T_true (in_group base c) t in
      left.new (c - base) (omega (arith, (group_is base c t).1))
      ∙ ap₂ (λ (x y : Bool). x && not y) (inside_next c e) (sym (ap (λ (x : Bool). x && reached near v (c - base)) e))

  here : (c : ℕ) → reached_by base far' v c ≡ reached_next p G R v c
  unfolding reached_by
  here c = ⊎_elim
      (λ t. let e = T_true (in_group base c) t in
      ap (λ (x : Bool). x && reached far' v (c - base)) e ∙ put_here (c - base) ∙ inside_next c e)
      (λ f. let e = no_false (in_group base c) f in
      ap (λ (x : Bool). x && reached far' v (c - base)) e ∙ sym (outside_next c e))
      (passes (in_group base c))

  others : (u c : ℕ) → (u ≡ v → ⊥) → reached_by base far' u c ≡ reached_by base far u c
  unfolding reached_by
  others u c f = ap (λ (x : Bool). in_group base c && x) (put_others u (c - base) f)

  pub step_idle : (t : List ℕ) → found ≡ 0 → Step n p G d v (reached_by base near) (reached_by base far) (reached_by base far') t t false
  step_idle t z = record {
    here = here;
    others = others;
    row = λ c h. sym (rw (still c) refl);
    rest = λ u c hu hc e. refl;
    idle = λ e c h. still c;
  }
    where
      still : (c : ℕ) → is_new p G R v c ≡ false
      still c = ⊎_elim
          (λ g. sym (inside_new c g) ∙ no_false (in_row s₃ (c - base)) (covers_none s₃ found z left.bits (c - base)))
          (λ f. outside_new c (no_false (in_group base c) f))
          (passes (in_group base c))

  -- the part of v's row that has the sources of the group
  module _ (t part : List ℕ) (stop : ℕ) (inside : v < n) (start : base < n) (size : length t ≡ n * n) (stops : stop ≡ min n (base + 256)) where
    abbrev a : ℕ
    a = v * n + base

    abbrev e : ℕ
    e = v * n + stop

    ends : e ≤ length t
    ends = omega (arith, row_within n v inside, stops)

    module _ (same : length part ≡ length (mid_of (v * n + base) (v * n + stop - (v * n + base)) t))
        (marked : (j : ℕ) → j < length (mid_of (v * n + base) (v * n + stop - (v * n + base)) t)
        → get_or part j 0 ≡ (if in_row s₃ j then d else get_or (mid_of (v * n + base) (v * n + stop - (v * n + base)) t) j 0)) where
      mid : length (mid_of a (e - a) t) ≡ e - a
      mid = mid_len a e t ends

      rises : a ≤ e
      rises = omega (arith, stops)

      row : (c : ℕ) → c < n → entry_at n (put_mid a (e - a) t part) v c ≡ (if is_new p G R v c then d else entry_at n t v c)
      unfolding entry_at
      row c h = ⊎_elim
          (λ g. let k = group_is base c g in
          let place : a + (c - base) ≡ v * n + c = omega (arith, k.0) in
          let within : c - base < e - a = omega (arith, k.0, k.1, stops) in
          ap (λ (x : ℕ). get_or (put_mid a (e - a) t part) x 0) (sym place)
          ∙ put_within a e t part rises ends (same ∙ mid) (c - base) within
          ∙ marked (c - base) (omega (arith, mid, within))
          ∙ ap₂ (λ (x : Bool) (y : ℕ). if x then d else y) (inside_new c g)
          (mid_at a (e - a) t (c - base) within ∙ ap (λ (x : ℕ). get_or t x 0) place))
          (λ f. off f (lt_or c base) (lt_or c (base + 256)) ∙ sym (rw (outside_new c (no_false (in_group base c) f)) refl))
          (passes (in_group base c))
        where
          off : (T (in_group base c) → ⊥) → (c < base) ⊎ (base ≤ c) → (c < base + 256) ⊎ (base + 256 ≤ c)
              → get_or (put_mid a (e - a) t part) (v * n + c) 0 ≡ get_or t (v * n + c) 0
          off f (inl q) s = put_before a e t part rises ends (same ∙ mid) (v * n + c) (omega arith)
          off f (inr q) (inl s) = absurd (f (rw (is_group base c q s) tt))
          off f (inr q) (inr s) = put_after a e t part rises ends (same ∙ mid) (v * n + c) (omega (arith, stops))

      rest : (u c : ℕ) → u < n → c < n → (u ≡ v → ⊥) → entry_at n (put_mid a (e - a) t part) u c ≡ entry_at n t u c
      unfolding entry_at
      rest u c hu hc f = ⊎_elim
          (λ (q : u < v). put_before a e t part rises ends (same ∙ mid) (u * n + c) (omega (arith, row_apart n u v c q hc)))
          (λ (q : v ≤ u).
          let k : v < u = omega arith in
          put_after a e t part rises ends (same ∙ mid) (u * n + c) (omega (arith, suc-mul v n, mul-le-mul_right n k, stops)))
          (lt_or u v)

      pub step_marked : Step n p G d v (reached_by base near) (reached_by base far) (reached_by base far') t
          (put_mid (v * n + base) (v * n + stop - (v * n + base)) t part) true
      step_marked = record { here = here; others = others; row = row; rest = rest; idle = λ q. absurd (subst T q tt) }

-- ---- the parts of the nodes below v

pub record Passing (n : ℕ) (p : ℕ → Bool) (G : Graph) (base d : ℕ) (R : Edges) (t₀ : List ℕ) (far : List (List ℕ)) (t : List ℕ) (more : Bool) (v : ℕ) : Type 0 where
  pub within : v ≤ n
  pub size : length t ≡ n * n
  pub done : (u c : ℕ) → u < v → reached_by base far u c ≡ reached_next p G R u c
  pub rows : (u c : ℕ) → u < v → c < n → entry_at n t u c ≡ (if is_new p G R u c then d else entry_at n t₀ u c)
  pub rest : (u c : ℕ) → v ≤ u → u < n → c < n → entry_at n t u c ≡ entry_at n t₀ u c
  pub idle : more ≡ false → (u c : ℕ) → u < v → c < n → is_new p G R u c ≡ false

module _ (n : ℕ) (p : ℕ → Bool) (G : Graph) (base d : ℕ) (R : Edges) (t₀ : List ℕ) where
  pub passing_none : (far : List (List ℕ)) → length t₀ ≡ n * n → Passing n p G base d R t₀ far t₀ false 0
  passing_none far m = record {
    within = omega arith;
    size = m;
    done = λ u c h. absurd (omega arith);
    rows = λ u c h k. absurd (omega arith);
    rest = λ u c h hu hc. refl;
    idle = λ e u c h k. absurd (omega arith);
  }

  pub passing_more : (far : List (List ℕ)) (t : List ℕ) (far' : List (List ℕ)) (t' : List ℕ) (more new : Bool) (v : ℕ) → v < n → Passing n p G base d R t₀ far t more v
      → length t' ≡ length t → Step n p G d v R (reached_by base far) (reached_by base far') t t' new
      → Passing n p G base d R t₀ far' t' (more || new) (v + 1)
  passing_more far t far' t' more new v h b m s = record {
    within = omega arith;
    size = m ∙ b.size;
    done = λ u c q. below_next (λ (u : ℕ). reached_by base far' u c ≡ reached_next p G R u c) v
        (λ u q. s.others u c (λ (z : u ≡ v). omega arith) ∙ b.done u c q) (s.here c) u q;
    rows = λ u c q k. below_next (λ (u : ℕ). entry_at n t' u c ≡ (if is_new p G R u c then d else entry_at n t₀ u c)) v
        (λ u q. s.rest u c (omega arith) k (λ (z : u ≡ v). omega arith) ∙ b.rows u c q k)
        (s.row c k ∙ ap (λ (x : ℕ). if is_new p G R v c then d else x) (b.rest v c (omega arith) h k)) u q;
    rest = λ u c q hu hc. s.rest u c hu hc (λ (z : u ≡ v). omega arith) ∙ b.rest u c (omega arith) hu hc;
    idle = λ e u c q k. below_next (λ (u : ℕ). is_new p G R u c ≡ false) v
        (λ u q. b.idle (of_or_false more new e).0 u c q k) (s.idle (of_or_false more new e).1 c k) u q;
  }

  pub passing_all : (far : List (List ℕ)) (t : List ℕ) (more : Bool) (v : ℕ) → n ≤ v → Passing n p G base d R t₀ far t more v
      → Level n p G d R (reached_by base far) t₀ t more
  passing_all far t more v h b = record {
    now = λ u c hu. b.done u c (omega arith);
    rows = λ u c hu hc. b.rows u c (omega arith) hc;
    idle = λ e u c hu hc. b.idle e u c (omega arith) hc;
  }
