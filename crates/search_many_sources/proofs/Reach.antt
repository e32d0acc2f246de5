-- Which sources have reached which nodes after k levels, and the distances known by then.
-- Assumes nothing.
use mathlib.Core.Path.{◌≡◌, refl, sym, ap, ap₂, ◌∙◌, subst}
use mathlib.Core.Logic.{◌⊎◌, inl, inr, ⊎_elim}
use mathlib.Core.Bool.{Bool, false, not, ◌&&◌, ◌||◌, and_comm, or-false}
use mathlib.Core.List.{List}
use Prim.Native.Nat.{ℕ, zero, suc, ◌+◌, ◌-◌, ◌≤◌, ◌<◌, zero-le}
use native.Mathlib.Nat.{add-zero, add-suc}
use native.Mathlib.Omega.{arith}
use lib.Dec.{T, eqb, not_T}
use Rattle.model.specs.Basics.{none, from, up_to, has, any, first_of}
use Rattle.std.specs.Prelude.{if◌then◌else◌}
use Rattle.model.specs.Graph.{Edges, between, linked, reach, fewest}
use Rattle.model.specs.Survey.{Graph, IsGraph}
use Rattle.model.specs.Tables.{entry_at}
use Rattle.model.proofs.Acceptance.{linked_is, linked_sym, linked_of}
use Rattle.model.proofs.Chains.{stay, step, grown, reached_below}
use Rattle.model.proofs.Lists.{of_single, any_of, of_any, First, found, nothing, first_below, first_is}
use Rattle.model.proofs.TableLaws.{between_ends}
use Rattle.model.proofs.Tests.{and_l, and_r, and_i, or_l, or_r, or_e, passes, no_false, false_no, T_true, same_test, eq_or}
use Rattle.search_many_sources.specs.Levels.{reached_next, is_new, Level, BegunAll, Filled}

-- one more number to search, where it passes only if an earlier one does
first_more : (f : ℕ → Bool) (d k : ℕ) → (T (f k) → (j : ℕ) × (j < k) × T (f j)) → first_of f d (up_to k) ≡ first_of f d (up_to (suc k))
first_more f d k h = at (first_below f d k) (first_below f d (suc k))
  where
    at : First f d 0 k (first_of f d (up_to k)) → First f d 0 (suc k) (first_of f d (up_to (suc k)))
        → first_of f d (up_to k) ≡ first_of f d (up_to (suc k))
    at (found lo hi t least) g = sym (first_is f d (suc k) (first_of f d (up_to k)) (omega arith) t (λ y l. least y zero-le l))
    at (nothing e miss) (nothing q rest) = e ∙ sym q
    at (nothing e miss) (found lo hi t least) = absurd (⊎_elim
        (λ (q : first_of f d (up_to (suc k)) ≡ k). let j = h (subst (λ (y : ℕ). T (f y)) q t) in miss j.0 zero-le (omega (arith, j.1)) j.2)
        (λ q. miss (first_of f d (up_to (suc k))) zero-le (omega arith) t)
        (eq_or (first_of f d (up_to (suc k))) k))

-- more numbers to search, where they pass only if one below m does
first_stays : (f : ℕ → Bool) (d m : ℕ) → ((k : ℕ) → m ≤ k → T (f k) → (j : ℕ) × (j < m) × T (f j))
    → (i : ℕ) → first_of f d (up_to m) ≡ first_of f d (up_to (m + i))
first_stays f d m h zero = ap (λ (k : ℕ). first_of f d (up_to k)) (sym (add-zero m))
first_stays f d m h (suc i) =
    first_stays f d m h i
    ∙ first_more f d (m + i) (λ t. let j = h (m + i) (omega arith) t in (j.0, omega (arith, j.1), j.2))
    ∙ ap (λ (k : ℕ). first_of f d (up_to k)) (sym (add-suc m i))

-- the sources are allowed nodes
module _ (n : ℕ) (p s : ℕ → Bool) (G : Graph) (sp : (c : ℕ) → T (s c) → T (p c)) where
  abbrev pub E : Edges
  E = between p (linked n G)

  -- c is a source and reaches v with at most k links
  unfoldable pub held : ℕ → Edges
  held k v c = s c && has v (reach E n c k)

  -- after level k, where the search began with the table t₀
  pub record Known (t₀ : List ℕ) (k : ℕ) (R : Edges) (t : List ℕ) : Type 0 where
    pub reaches : (v c : ℕ) → v < n → R v c ≡ held k v c
    pub rows : (v c : ℕ) → v < n → c < n
        → entry_at n t v c ≡ (if s c then first_of (λ i. has v (reach E n c i)) none (up_to (suc k)) else entry_at n t₀ v c)

  pub known_start : (R : Edges) (t : List ℕ) → BegunAll n s R t t → Known t 0 R t
  unfolding held reach has first_of up_to from
  known_start R t b = record {
    reaches = λ v c h. b.reached v c h ∙ and_comm (eqb v c) (s c) ∙ ap (λ (x : Bool). s c && x) (sym (or-false (eqb v c)));
    rows = λ v c h k. ⊎_elim
        (λ u. b.rows v c h k u ∙ ap (λ (x : Bool). if x then 0 else none) (sym (or-false (eqb v c))) ∙ sym (rw (T_true (s c) u) refl))
        (λ f. sym (rw (no_false (s c) f) refl))
        (passes (s c));
  }

  held_source : (k v c : ℕ) → T (held k v c) → T (s c)
  unfolding held
  held_source k v c t = and_l (s c) _ t

  held_reached : (k v c : ℕ) → T (held k v c) → T (has v (reach E n c k))
  unfolding held
  held_reached k v c t = and_r (s c) _ t

  is_held : (k v c : ℕ) → T (s c) → T (has v (reach E n c k)) → T (held k v c)
  unfolding held
  is_held k v c a t = and_i (s c) _ a t

  -- from an allowed node only allowed ones are reached
  stays_allowed : (k v c : ℕ) → T (p c) → T (has v (reach E n c k)) → T (p v)
  unfolding reach
  stays_allowed zero v c a t = subst (λ (x : ℕ). T (p x)) (sym (of_single v c t)) a
  stays_allowed (suc k) v c a t = ⊎_elim
      (λ u. stays_allowed k v c a u)
      (λ u. and_r (p u.0) (p v) (and_l (p u.0 && p v) (linked n G u.0 v) u.2))
      (grown E n c k v t).1

  module _ (g : IsGraph n G) (k : ℕ) (R : Edges) (is : (v c : ℕ) → v < n → R v c ≡ held k v c) where
    next_held : (v c : ℕ) → v < n → reached_next p G R v c ≡ held (suc k) v c
    unfolding reached_next
    next_held v c h = same_test (R v c || (p v && any (λ x. R x c) (G v))) (held (suc k) v c)
        (λ t. ⊎_elim
        (λ a. let q = subst T (is v c h) a in is_held (suc k) v c (held_source k v c q) (stay E n c k v h (held_reached k v c q)))
        (λ a. let i = of_any (λ x. R x c) (G v) (and_r (p v) (any (λ x. R x c) (G v)) a) in
        let l = linked_of n G g v i.0 h i.1 in
        let q : T (held k i.0 c) = subst T (is i.0 c (linked_is n G v i.0 l).second) i.2 in
        let u = held_reached k i.0 c q in
        is_held (suc k) v c (held_source k i.0 c q) (step E n c k i.0 v h u
        (and_i (p i.0 && p v) (linked n G i.0 v)
        (and_i (p i.0) (p v) (stays_allowed k i.0 c (sp c (held_source k i.0 c q)) u) (and_l (p v) (any (λ x. R x c) (G v)) a))
        (linked_sym n G v i.0 l))))
        (or_e (R v c) (p v && any (λ x. R x c) (G v)) t))
        (λ t. let a = held_source (suc k) v c t in
        ⊎_elim
        (λ u. or_l (R v c) (p v && any (λ x. R x c) (G v)) (subst T (sym (is v c h)) (is_held k v c a u)))
        (λ u. let both = and_l (p u.0 && p v) (linked n G u.0 v) u.2 in
        let l = linked_is n G u.0 v (and_r (p u.0 && p v) (linked n G u.0 v) u.2) in
        or_r (R v c) (p v && any (λ x. R x c) (G v)) (and_i (p v) (any (λ x. R x c) (G v)) (and_r (p u.0) (p v) both)
        (any_of (λ x. R x c) (G v) u.0 l.back (subst T (sym (is u.0 c l.first)) (is_held k u.0 c a u.1)))))
        (grown E n c k v (held_reached (suc k) v c t)).1)

    new_held : (v c : ℕ) → v < n → is_new p G R v c ≡ (held (suc k) v c && not (held k v c))
    unfolding is_new
    new_held v c h = ap₂ (λ (x y : Bool). x && not y) (next_held v c h) (is v c h)

  -- ---- the next level

  -- v is reached from c with at most i links
  abbrev by : ℕ → ℕ → ℕ → Bool
  by c v i = has v (reach E n c i)

  -- the number of the level is the distance of what is new in it
  first_next : (f : ℕ → Bool) (k : ℕ) → ((i : ℕ) → i ≤ k → T (f i) → T (f k))
      → (if f (suc k) && not (f k) then suc k else first_of f none (up_to (suc k))) ≡ first_of f none (up_to (suc (suc k)))
  first_next f k up = at (passes (f (suc k))) (passes (f k))
    where
      at : T (f (suc k)) ⊎ (T (f (suc k)) → ⊥) → T (f k) ⊎ (T (f k) → ⊥)
          → (if f (suc k) && not (f k) then suc k else first_of f none (up_to (suc k))) ≡ first_of f none (up_to (suc (suc k)))
      at (inl a) (inl b) = rw (T_true (f (suc k)) a, T_true (f k) b) (first_more f none (suc k) (λ q. (k, omega arith, b)))
      at (inl a) (inr b) = rw (T_true (f (suc k)) a, no_false (f k) b) (
          sym (first_is f none (suc (suc k)) (suc k) (omega arith) a (λ y q u. b (up y (omega arith) u))))
      at (inr a) c = rw (no_false (f (suc k)) a) (first_more f none (suc k) (λ q. absurd (a q)))

  still_by : (i k v c : ℕ) → v < n → T (by c v k) → T (by c v (k + i))
  still_by zero k v c h u = subst (λ (x : ℕ). T (by c v x)) (sym (add-zero k)) u
  still_by (suc i) k v c h u = subst (λ (x : ℕ). T (by c v x)) (sym (add-suc k i)) (stay E n c (k + i) v h (still_by i k v c h u))

  module _ (t₀ : List ℕ) (g : IsGraph n G) (k : ℕ) (R F : Edges) (t t' : List ℕ) (more : Bool) (m : Known t₀ k R t)
      (l : Level n p G (suc k) R F t t' more) where
    -- what is new, for a source and for another node
    new_by : (v c : ℕ) → v < n → T (s c) → is_new p G R v c ≡ (by c v (suc k) && not (by c v k))
    unfolding held
    new_by v c h a = new_held g k R m.reaches v c h ∙ ap (λ (x : Bool). (x && by c v (suc k)) && not (x && by c v k)) (T_true (s c) a)

    new_other : (v c : ℕ) → v < n → (T (s c) → ⊥) → is_new p G R v c ≡ false
    unfolding held
    new_other v c h f = new_held g k R m.reaches v c h ∙ ap (λ (x : Bool). (x && by c v (suc k)) && not (x && by c v k)) (no_false (s c) f)

    pub known_next : Known t₀ (suc k) F t'
    known_next = record {
      reaches = λ v c h. l.now v c h ∙ next_held g k R m.reaches v c h;
      rows = λ v c hv hc. l.rows v c hv hc ∙ ⊎_elim (source v c hv hc) (other v c hv hc) (passes (s c));
    }
      where
        source : (v c : ℕ) → v < n → c < n → T (s c) → (if is_new p G R v c then suc k else entry_at n t v c)
            ≡ (if s c then first_of (by c v) none (up_to (suc (suc k))) else entry_at n t₀ v c)
        source v c hv hc a =
            ap₂ (λ (x : Bool) (y : ℕ). if x then suc k else y) (new_by v c hv a)
            (m.rows v c hv hc ∙ ap (λ (x : Bool). if x then first_of (by c v) none (up_to (suc k)) else entry_at n t₀ v c) (T_true (s c) a))
            ∙ first_next (by c v) k (λ i q u.
            let z : i + (k - i) ≡ k = omega arith in subst (λ (x : ℕ). T (by c v x)) z (still_by (k - i) i v c hv u))
            ∙ sym (rw (T_true (s c) a) refl)

        other : (v c : ℕ) → v < n → c < n → (T (s c) → ⊥) → (if is_new p G R v c then suc k else entry_at n t v c)
            ≡ (if s c then first_of (by c v) none (up_to (suc (suc k))) else entry_at n t₀ v c)
        other v c hv hc f =
            ap₂ (λ (x : Bool) (y : ℕ). if x then suc k else y) (new_other v c hv f) (m.rows v c hv hc)
            ∙ rw (no_false (s c) f) refl

    -- nothing new: the distances are those of every later level
    module _ (idle : more ≡ false) where
      no_more : (v c : ℕ) → v < n → c < n → T (s c) → T (by c v (suc k)) → T (by c v k)
      no_more v c hv hc a u = ⊎_elim (λ b. b) (λ b. absurd (false_no (is_new p G R v c) (l.idle idle v c hv hc)
          (subst T (sym (new_by v c hv a)) (and_i (by c v (suc k)) (not (by c v k)) u (not_T (by c v k) b))))) (passes (by c v k))

      never_more : (i v c : ℕ) → v < n → c < n → T (s c) → T (by c v (k + i)) → T (by c v k)
      never_more zero v c hv hc a u = subst (λ (x : ℕ). T (by c v x)) (add-zero k) u
      never_more (suc i) v c hv hc a u = ⊎_elim
          (λ b. never_more i v c hv hc a b)
          (λ b. no_more v c hv hc a (step E n c k b.0 v hv (never_more i b.0 c
          (linked_is n G b.0 v (and_r (p b.0 && p v) (linked n G b.0 v) b.2)).first hc a b.1) b.2))
          (grown E n c (k + i) v (subst (λ (x : ℕ). T (by c v x)) (add-suc k i) u)).1

      pub filled_idle : suc k ≤ n → Filled n p s G t₀ t'
      unfolding fewest
      filled_idle h v c hv hc =
          l.rows v c hv hc
          ∙ ap (λ (x : Bool). if x then suc k else entry_at n t v c) (l.idle idle v c hv hc)
          ∙ m.rows v c hv hc
          ∙ ⊎_elim
          (λ a. let same : suc k + (n - suc k) ≡ n = omega arith in
          ap (λ (x : ℕ). if s c then x else entry_at n t₀ v c)
          (first_stays (by c v) none (suc k) (λ i q u.
          let z : k + (i - k) ≡ i = omega arith in
          (k, omega arith, never_more (i - k) v c hv hc a (subst (λ (x : ℕ). T (by c v x)) (sym z) u))) (n - suc k)
          ∙ ap (λ (x : ℕ). first_of (by c v) none (up_to x)) same))
          (λ f. rw (no_false (s c) f) refl)
          (passes (s c))

  -- after n levels nothing is left to find
  pub filled_end : (t₀ : List ℕ) (k : ℕ) (R : Edges) (t : List ℕ) → Known t₀ k R t → n ≤ suc k → Filled n p s G t₀ t
  unfolding fewest
  filled_end t₀ k R t m h v c hv hc =
      let same : n + (suc k - n) ≡ suc k = omega arith in
      m.rows v c hv hc
      ∙ sym (ap (λ (x : ℕ). if s c then x else entry_at n t₀ v c)
      (first_stays (by c v) none n (λ i q u. reached_below E n c (between_ends p n G) hc i v u) (suc k - n)
      ∙ ap (λ (x : ℕ). first_of (by c v) none (up_to x)) same))
