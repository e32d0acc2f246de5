-- Asking and walking. A walk that is given out is a chain of the survey's links, whatever the tables hold; and there are no more steps
-- than nodes.
-- Assumes nothing.
use mathlib.Core.Path.{◌≡◌, refl, sym, ap, ap₂, ◌∙◌, subst}
use mathlib.Core.Logic.{◌⊎◌, inl, inr, ⊎_elim, ◌↔◌}
use mathlib.Core.Bool.{Bool, true, false, ◌&&◌}
use mathlib.Core.List.{List, [], ◌∷◌, ◌++◌, reverse, tail, reverse-cons}
use mathlib.Core.Option.{Option, none as missing, some, IsSome}
use Prim.Native.Nat.{ℕ, zero, suc, ◌+◌, ◌-◌, ◌≤◌, ◌<◌, zero-le}
use native.Mathlib.Nat.{sub-zero}
use native.Mathlib.Omega.{arith}
use borrow.Author.Tests.{eqb-true, eqb-false, lt-ltb, le-ltb}
use lib.Dec.{T, eqb, ltb, eqb→eq, ltb→lt, lt→ltb}
use lib.ListN.{length, replicate, length-append, length-reverse}
use Rattle.model.specs.declared.Route.TheVariants.{Itself, Low, Through, NoRoute, Link}
use Rattle.model.specs.declared.Answer.{Answer}
use Rattle.model.specs.Answers.{Outcome, refused, answered}
use Rattle.model.specs.Basics.{none, has, keep, up_to}
use Rattle.std.specs.Prelude.{if◌then◌else◌}
use Rattle.model.specs.Graph.{Edges, Walked, stop, go, linked}
use Rattle.model.specs.Survey.{Graph, IsGraph}
use Rattle.model.specs.Hubs.{is_low}
use Rattle.model.specs.Tables.{entry_at, via}
use Rattle.model.specs.Pair.{with_route, attaining, choose, pair_by}
use Rattle.model.specs.Walk.{before, next, steps, by_low, to_hub, join, by_link, walk_nodes}
use Rattle.model.specs.Walking.{AfterWalking, refuse_walk, fit, walk_of}
use Rattle.model.proofs.Tests.{and_l, and_r, and_i, true_T, eq_T, eq_or, lt_or, picked}
use Rattle.model.proofs.Lists.{has_up_to, first_in, first_below, first_same, First, found, nothing, keep_grows, keep_length, length_up_to}
use Rattle.model.proofs.Acceptance.{linked_of, linked_sym}
use Rattle.model.proofs.Allowance.{Sum, whole, part, sum_is}

-- ---- the cases of an answer

pub data Chosen (a b r l h : ℕ) : Outcome Answer → Type 0 where
  to_itself : a ≡ b → r ≡ 0 → Chosen a b r l h (answered (with_route 0 Itself))
  to_none : (a ≡ b → ⊥) → r ≡ none → Chosen a b r l h (answered (with_route none NoRoute))
  to_link : (a ≡ b → ⊥) → r ≡ 1 → Chosen a b r l h (answered (with_route 1 Link))
  to_low : (a ≡ b → ⊥) → (r ≡ none → ⊥) → (r ≡ 1 → ⊥) → l ≡ r → Chosen a b r l h (answered (with_route r Low))
  to_hub_lem : (a ≡ b → ⊥) → (r ≡ none → ⊥) → (r ≡ 1 → ⊥) → (l ≡ r → ⊥) → (h ≡ none → ⊥)
      → Chosen a b r l h (answered (with_route r (Through h)))
  bad_itself : a ≡ b → (r ≡ 0 → ⊥) → Chosen a b r l h (refused 11)
  bad_hub : (a ≡ b → ⊥) → (r ≡ none → ⊥) → (r ≡ 1 → ⊥) → (l ≡ r → ⊥) → h ≡ none → Chosen a b r l h (refused 11)

pub chosen : (a b r l h : ℕ) → Chosen a b r l h (choose a b r l h)
unfolding choose
chosen a b r l h =
    picked P (eqb a b) _ _
    (λ x. picked P (eqb r 0) _ _
    (λ y. to_itself (eqb-true _ _ x) (eqb-true _ _ y)) (λ y. bad_itself (eqb-true _ _ x) (eqb-false _ _ y)))
    (λ x. picked P (eqb r none) _ _
    (λ y. to_none (eqb-false _ _ x) (eqb-true _ _ y))
    (λ y. picked P (eqb r 1) _ _
    (λ o. to_link (eqb-false _ _ x) (eqb-true _ _ o))
    (λ o. picked P (eqb l r) _ _
    (λ z. to_low (eqb-false _ _ x) (eqb-false _ _ y) (eqb-false _ _ o) (eqb-true _ _ z))
    (λ z. picked P (eqb h none) _ _
    (λ w. bad_hub (eqb-false _ _ x) (eqb-false _ _ y) (eqb-false _ _ o) (eqb-false _ _ z) (eqb-true _ _ w))
    (λ w. to_hub_lem (eqb-false _ _ x) (eqb-false _ _ y) (eqb-false _ _ o) (eqb-false _ _ z) (eqb-false _ _ w))))))
  where
    P : Outcome Answer → Type 0
    P = Chosen a b r l h

-- ---- one part of a walk

-- a step from v leads to x, a neighbour that is allowed and has d links left; or it ends, with x none, where there is no such neighbour
data Next (G : Graph) (may : ℕ → Bool) (left : ℕ → ℕ) (d v x : ℕ) : Type 0 where
  leads : T (has x (G v)) → T (may x) → left x ≡ d → Next G may left d v x
  ends : x ≡ none → ((y : ℕ) → T (has y (G v)) → T (may y) → left y ≡ d → ⊥) → Next G may left d v x

next_cases : (G : Graph) (may : ℕ → Bool) (left : ℕ → ℕ) (d v : ℕ) → Next G may left d v (next G may left d v)
unfolding next
next_cases G may left d v = at (first_in p none (G v))
  where
    p : ℕ → Bool
    p x = may x && eqb (left x) d

    at : {x : ℕ} → (T (has x (G v)) × T (p x)) ⊎ ((x ≡ none) × ((y : ℕ) → T (has y (G v)) → T (p y) → ⊥)) → Next G may left d v x
    at {x} (inl r) = leads r.0 (and_l (may x) _ r.1) (eqb→eq _ _ (and_r (may x) (eqb (left x) d) r.1))
    at (inr r) = ends r.0 (λ y m t e. r.1 y m (and_i (may y) _ t (eq_T (left y) _ e)))

-- where there are nodes, they are a chain of d links from v to goal
abbrev pub Sound : Edges → ℕ → ℕ → ℕ → Option (List ℕ) → Type 0
Sound E d v goal missing = Unit {0}
Sound E d v goal (some l) = Walked E l v goal × (length l ≡ suc d)

module _ (n : ℕ) (G : Graph) (g : IsGraph n G) (may : ℕ → Bool) (left : ℕ → ℕ) (goal : ℕ) where
  pub steps_sound : (d v : ℕ) → v < n → Sound (linked n G) d v goal (steps G may left goal d v)
  unfolding steps before
  steps_sound zero v h = at (eqb v goal) refl
    where
      at : (t : Bool) → eqb v goal ≡ t → Sound (linked n G) 0 v goal (if t then some (v ∷ []) else missing)
      at true e = (subst (λ (z : ℕ). Walked (linked n G) (v ∷ []) v z) (eqb-true _ _ e) stop, refl)
      at false e = tt
  steps_sound (suc d) v h = at (eqb x none) refl (next_cases G may left d v) (λ b. steps_sound d x b)
    where
      x : ℕ
      x = next G may left d v

      add : (o : Option (List ℕ)) → T (linked n G v x) → Sound (linked n G) d x goal o → Sound (linked n G) (suc d) v goal (before v o)
      add missing t s = tt
      add (some l) t s = (go t s.0, ap suc s.1)

      at : (t : Bool) → eqb x none ≡ t → Next G may left d v x → (x < n → Sound (linked n G) d x goal (steps G may left goal d x))
          → Sound (linked n G) (suc d) v goal (if t then missing else before v (steps G may left goal d x))
      at true e c rec = tt
      at false e (leads m t l) rec = add (steps G may left goal d x) (linked_of _ _ g _ _ h m) (rec (g.below v x h m))
      at false e (ends q f) rec = absurd (eqb-false _ _ e q)

  -- where each node has a next one, one link nearer, the steps lead to the goal
  pub steps_given : n ≤ none → ((v d : ℕ) → v < n → suc d < none → left v ≡ suc d → (u : ℕ) × T (has u (G v)) × T (may u) × (left u ≡ d))
      → ((v : ℕ) → v < n → left v ≡ 0 → v ≡ goal) → (d v : ℕ) → v < n → d < none → left v ≡ d → IsSome (steps G may left goal d v)
  unfolding steps before
  steps_given size nearer end zero v h z q = at (eqb v goal) (eq_T _ _ (end v h q))
    where
      at : (t : Bool) → T t → IsSome (if t then some (v ∷ []) else missing)
      at true t = tt
      at false t = t
  steps_given size nearer end (suc d) v h z q = at (next_cases G may left d v) (λ b e. steps_given size nearer end d _ b (omega arith) e)
    where
      x : ℕ
      x = next G may left d v

      add : (o : Option (List ℕ)) → IsSome o → IsSome (before v o)
      add missing t = t
      add (some l) t = tt

      away : (t : Bool) → eqb x none ≡ t → x < n → IsSome (steps G may left goal d x)
          → IsSome (if t then missing else before v (steps G may left goal d x))
      away true e b s = let w : x ≡ none = eqb-true _ _ e in absurd (omega arith)
      away false e b s = add (steps G may left goal d x) s

      at : Next G may left d v x → (x < n → left x ≡ d → IsSome (steps G may left goal d x))
          → IsSome (if eqb x none then missing else before v (steps G may left goal d x))
      at (leads m t l) rec = let b = g.below v x h m in away (eqb x none) refl b (rec b l)
      at (ends e f) rec = let u = nearer v d h z q in absurd (f u.0 u.1 u.2 u.3)

-- the next node, if there is one, is below n
pub next_below : (n : ℕ) (G : Graph) → IsGraph n G → (may : ℕ → Bool) (left : ℕ → ℕ) (d v : ℕ) → v < n → (next G may left d v ≡ none → ⊥)
    → next G may left d v < n
next_below n G g may left d v h = at (next_cases G may left d v)
  where
    at : {x : ℕ} → Next G may left d v x → (x ≡ none → ⊥) → x < n
    at {x} (leads m t l) f = g.below v x h m
    at (ends e miss) f = absurd (f e)

-- steps depend only on nodes below n
module _ (n : ℕ) (G : Graph) (g : IsGraph n G) (may may' : ℕ → Bool) (left left' : ℕ → ℕ) (goal : ℕ)
    (same-may : (x : ℕ) → x < n → may x ≡ may' x) (same_left : (x : ℕ) → x < n → left x ≡ left' x) where
  next_same : (d v : ℕ) → v < n → next G may left d v ≡ next G may' left' d v
  unfolding next
  next_same d v h = first_same _ _ _ _ (λ x m.
      let b = g.below v x h m in
      ap₂ (λ (t : Bool) (k : ℕ). t && eqb k d) (same-may x b) (same_left x b))

  pub steps_same : (d v : ℕ) → v < n → steps G may left goal d v ≡ steps G may' left' goal d v
  unfolding steps
  steps_same zero v h = refl
  steps_same (suc d) v h = at (eqb x none) refl (λ b. steps_same d x b) ∙ ap on (next_same _ _ h)
    where
      x : ℕ
      x = next G may left d v

      on : ℕ → Option (List ℕ)
      on y = if eqb y none then missing else before v (steps G may' left' goal d y)

      at : (t : Bool) → eqb x none ≡ t → (x < n → steps G may left goal d x ≡ steps G may' left' goal d x)
          → (if t then missing else before v (steps G may left goal d x)) ≡ (if t then missing else before v (steps G may' left' goal d x))
      at true e rec = refl
      at false e rec = ap (before v) (rec (next_below _ _ g _ _ _ _ h (eqb-false _ _ e)))

-- ---- two parts joined

module _ {E : Edges} where
  walked_head : {l : List ℕ} {a b : ℕ} → Walked E l a b → l ≡ a ∷ tail l
  walked_head stop = refl
  walked_head (go t r) = refl

  walked_snoc : {l : List ℕ} {a b c : ℕ} → Walked E l a b → T (E b c) → Walked E (l ++ (c ∷ [])) a c
  walked_snoc stop t = go t stop
  walked_snoc (go s r) t = go s (walked_snoc r t)

  walked_append : {p q : List ℕ} {a b c : ℕ} → Walked E p a b → Walked E q b c → Walked E (p ++ tail q) a c
  walked_append stop w = rw (walked_head w) at w
  walked_append (go t r) w = go t (walked_append r w)

  walked_turn : ((u v : ℕ) → T (E u v) → T (E v u)) → {l : List ℕ} {a b : ℕ} → Walked E l a b → Walked E (reverse l) b a
  walked_turn f stop = stop
  walked_turn f {a = a} (go {l = l} t r) =
      rw (reverse-cons a l) (walked_snoc (walked_turn f r) (f _ _ t))

pub join_sound : (E : Edges) → ((u v : ℕ) → T (E u v) → T (E v u)) → (i j a b h : ℕ) (p q : Option (List ℕ))
    → Sound E i a h p → Sound E j b h q → Sound E (i + j) a b (join p q)
unfolding join
join_sound E f i j a b h missing q s t = tt
join_sound E f i j a b h (some p) missing s t = tt
join_sound E f i j a b h (some p) (some q) s t =
    let w = walked_turn f t.0 in (
      walked_append s.0 w,
      length-append p (tail (reverse q)) ∙ omega (arith, s.1, t.1, ap length (walked_head w), length-reverse q),
    )

pub join_given : (p q : Option (List ℕ)) → IsSome p → IsSome q → IsSome (join p q)
unfolding join
join_given missing q s t = s
join_given (some p) missing s t = t
join_given (some p) (some q) s t = tt

-- ---- how deep the recursion goes

-- how many calls `steps` makes of itself
unfoldable pub depth : Graph → (ℕ → Bool) → (ℕ → ℕ) → ℕ → ℕ → ℕ
depth G may left zero v = 0
depth G may left (suc d) v =
    let x = next G may left d v in
    let more = suc (depth G may left d x) in
    if eqb x none then 0 else more

-- each step enters a node with another number of links left, so there are no more steps than nodes
module _ (n : ℕ) (G : Graph) (g : IsGraph n G) (may : ℕ → Bool) (left : ℕ → ℕ) where
  under : ℕ → ℕ
  under d = length (keep (λ x. ltb (left x) d) (up_to n))

  depth_under : (d v : ℕ) → v < n → depth G may left d v ≤ under d
  unfolding depth under
  depth_under zero v h = zero-le
  depth_under (suc d) v h = at (eqb x none) refl (next_cases G may left d v) (λ b. depth_under d x b)
    where
      x : ℕ
      x = next G may left d v

      more : x < n → left x ≡ d → under d < under (suc d)
      more b e = ⊎_elim
          (λ f. absurd (omega (arith, ltb→lt (left x) d (f x (has_up_to n x b) (lt→ltb (left x) (suc d) (omega arith))))))
          (λ l. l)
          (keep_grows (λ y. ltb (left y) d) (λ y. ltb (left y) (suc d)) (up_to n)
          (λ y m t. lt→ltb (left y) (suc d) (omega (arith, ltb→lt (left y) d t))))

      at : (t : Bool) → eqb x none ≡ t → Next G may left d v x → (x < n → depth G may left d x ≤ under d)
          → (if t then 0 else suc (depth G may left d x)) ≤ under (suc d)
      at true e c rec = zero-le
      at false e (leads m t l) rec = let b = g.below v x h m in omega (arith, rec b, more b l)
      at false e (ends q f) rec = absurd (eqb-false _ _ e q)

  pub depth_bounded : (d v : ℕ) → v < n → depth G may left d v ≤ n
  unfolding under
  depth_bounded d v h = omega (arith, depth_under d v h, keep_length (λ x. ltb (left x) d) (up_to n), length_up_to n)

  -- a part that is found takes all its steps. So there is no part of n links or more from a node that has as many left
  depth_all : (goal d v : ℕ) → IsSome (steps G may left goal d v) → depth G may left d v ≡ d
  unfolding steps depth before
  depth_all goal zero v m = refl
  depth_all goal (suc d) v m = at (eqb x none) m (λ r. depth_all goal d x r)
    where
      x : ℕ
      x = next G may left d v

      rest : (o : Option (List ℕ)) → IsSome (before v o) → IsSome o
      rest missing r = r
      rest (some l) r = tt

      at : (t : Bool) → IsSome (if t then missing else before v (steps G may left goal d x))
          → (IsSome (steps G may left goal d x) → depth G may left d x ≡ d) → (if t then 0 else suc (depth G may left d x)) ≡ suc d
      at true r rec = absurd r
      at false r rec = ap suc (rec (rest (steps G may left goal d x) r))

  under_all : (d v : ℕ) → v < n → d ≤ left v → under d < n
  unfolding under
  under_all d v h l = ⊎_elim
      (λ f. absurd (omega (arith, ltb→lt (left v) d (f v (has_up_to n v h) tt))))
      (λ k. omega (arith, keep_length (λ x. true) (up_to n), length_up_to n))
      (keep_grows (λ x. ltb (left x) d) (λ x. true) (up_to n) (λ x m t. tt))

  pub too_long : (goal d v : ℕ) → v < n → d ≤ left v → n ≤ d → steps G may left goal d v ≡ missing
  too_long goal d v h l k = at (steps G may left goal d v) refl
    where
      at : (o : Option (List ℕ)) → steps G may left goal d v ≡ o → o ≡ missing
      at missing e = refl
      at (some p) e = absurd (omega (arith, depth_all _ _ _ (subst IsSome (sym e) tt), depth_under d v h, under_all d _ h l))

-- ---- the whole walk, whatever the tables hold

-- what a walk list of w entries holds at return, with the answer: refused, no route, or a chain of as many links as the report
pub data Given-out (E : Edges) (a b w : ℕ) : AfterWalking → Type 0 where
  refusal : (k : ℕ) → Given-out E a b w (record { answer = refused k; walk = replicate w none })
  no_way : Given-out E a b w (record { answer = answered (with_route none NoRoute); walk = replicate w none })
  walked : (x : Answer) (l : List ℕ) → Walked E l a b → length l ≡ suc x.report → length l ≤ w
      → Given-out E a b w (record { answer = answered x; walk = l ++ replicate (w - length l) none })

-- the list is too short for the nodes; it is long enough
pub fit_short : (w : ℕ) (x : Answer) (l : List ℕ) → w < length l → fit w x (some l) ≡ refuse_walk w 8
unfolding fit
fit_short w x l h = rw (lt-ltb w (length l) h)

pub fit_long : (w : ℕ) (x : Answer) (l : List ℕ) → length l ≤ w
    → fit w x (some l) ≡ record { answer = answered x; walk = l ++ replicate (w - length l) none }
unfolding fit
fit_long w x l h = rw (le-ltb w (length l) h)

fit_outcome : (E : Edges) (a b w : ℕ) (x : Answer) (o : Option (List ℕ)) → Sound E x.report a b o → Given-out E a b w (fit w x o)
unfolding fit refuse_walk
fit_outcome E a b w x missing s = refusal 11
fit_outcome E a b w x (some l) s = ⊎_elim
    (λ h. rw (fit_short _ x l h) (refusal 8))
    (λ h. rw (fit_long _ _ l h) (walked x l s.0 s.1 h))
    (lt_or w (length l))

fit_none : (E : Edges) (a b w : ℕ) → Given-out E a b w (fit w (with_route none NoRoute) (some []))
fit_none E a b w =
    subst (λ (r : AfterWalking). Given-out E a b w r)
    (sym (fit_long _ _ _ (omega arith)
    ∙ ap (λ (k : ℕ). record { answer = answered (with_route none NoRoute); walk = replicate k none }) (sub-zero w)))
    no_way

-- where a sum of two entries is not none, neither entry is, and it is their sum
pub via_sum : (n : ℕ) (full : List ℕ) (a b h : ℕ) {z : ℕ} → via n full a b h ≡ z → (z ≡ none → ⊥)
    → (entry_at n full h a ≡ none → ⊥) × (entry_at n full h b ≡ none → ⊥) × (entry_at n full h a + entry_at n full h b ≡ z)
unfolding via
via_sum n full a b h {z} e f = at (sum_is (entry_at n full h a) (entry_at n full h b)) e
  where
    at : {x y u : ℕ} → Sum x y u → u ≡ z → (x ≡ none → ⊥) × (y ≡ none → ⊥) × (x + y ≡ z)
    at (whole p q s) e = (p, q, sym s ∙ e)
    at (part s p) e = absurd (f (sym e ∙ s))

module _ (isHub : ℕ → Bool) (n : ℕ) (full : List ℕ) (a b : ℕ) where
  -- the hub found for a report is below n, counts as a hub, and its two entries add up to the report
  pub attains : (r : ℕ) → (attaining isHub n full a b r ≡ none → ⊥)
      → (attaining isHub n full a b r < n) × T (isHub (attaining isHub n full a b r)) × (via n full a b (attaining isHub n full a b r) ≡ r)
  unfolding attaining
  attains r d = at (first_below p none n) d
    where
      p : ℕ → Bool
      p h = isHub h && eqb (via n full a b h) r

      at : {x : ℕ} → First p none 0 n x → (x ≡ none → ⊥) → (x < n) × T (isHub x) × (via n full a b x ≡ r)
      at {x} (found lo hi t least) d = (
        omega arith,
        and_l (isHub x) _ t,
        eqb→eq _ _ (and_r (isHub x) (eqb (via n full a b x) r) t),
      )
      at (nothing e miss) d = absurd (d e)

module _ {n : ℕ} (s : ℕ) {G : Graph} (g : IsGraph n G) (full low : List ℕ) {a b : ℕ} (ha : a < n) (hb : b < n) where
  low_sound : Sound (linked n G) (entry_at n low a b) a b (by_low n s G low a b)
  unfolding by_low
  low_sound = steps_sound _ _ g (is_low s G) (λ x. entry_at n low x b) b (entry_at n low a b) a ha

  hub_sound : (h : ℕ) → Sound (linked n G) (entry_at n full h a + entry_at n full h b) a b (join (to_hub n G full h a) (to_hub n G full h b))
  unfolding to_hub
  hub_sound h =
      join_sound _ (linked_sym _ _) (entry_at n full h a) (entry_at n full h b) a b h (to_hub n G full h a) (to_hub n G full h b)
      (steps_sound _ _ g (λ x. true) (λ x. entry_at n full h x) h (entry_at n full h a) a ha)
      (steps_sound _ _ g (λ x. true) (λ x. entry_at n full h x) h (entry_at n full h b) b hb)

  link_sound : Sound (linked n G) 1 a b (by_link n G a b)
  unfolding by_link
  link_sound = picked (Sound (linked n G) 1 a b) (linked n G a b) _ _ (λ e. (go (true_T _ e) stop, refl)) (λ _. tt)

  -- the hubs that count, and the table of reports
  module _ (isHub : ℕ → Bool) (report : List ℕ) where
    abbrev Chosen-here : Outcome Answer → Type 0
    Chosen-here q = Chosen a b (entry_at n report a b) (entry_at n low a b) (attaining isHub n full a b (entry_at n report a b)) q

    -- where the nodes of the route are found, they are a chain of as many links as the report
    pub route_sound : (x : Answer) → Chosen-here (answered x) → (x.report ≡ none → ⊥)
        → Sound (linked n G) x.report a b (walk_nodes n s G full low a b x.route)
    unfolding walk_nodes
    route_sound x (to_itself e z) m = (rw (← e) stop, refl)
    route_sound x (to_none f e) m = absurd (m refl)
    route_sound x (to_link f e) m = link_sound
    route_sound x (to_low f g o e) m = rw e at low_sound
    route_sound x (to_hub_lem f g o y z) m =
        let hub = attaining isHub n full a b (entry_at n report a b) in
        let i = attains isHub n full a b (entry_at n report a b) z in
        let e = via_sum n full a b hub i.2 g in
        subst (λ (d : ℕ). Sound (linked n G) d a b (join (to_hub n G full hub a) (to_hub n G full hub b))) e.2 (hub_sound _)

    -- with no route there are no nodes
    none_found : (x : Answer) → Chosen-here (answered x) → (l : List ℕ) → walk_nodes n s G full low a b x.route ≡ some l
        → x.report ≡ none → length l ≡ 0
    unfolding walk_nodes
    none_found x (to_itself p q) l e z = absurd (omega arith)
    none_found x (to_none p q) l e z = let k : [] ≡ l = cc in ap length (sym k)
    none_found x (to_link p q) l e z = absurd (omega arith)
    none_found x (to_low p f o q) l e z = absurd (f z)
    none_found x (to_hub_lem p f o q t) l e z = absurd (f z)

    -- a list of w entries is too short for the nodes found exactly where there is a route and w is less than report + 1
    pub found_longer : (x : Answer) → Chosen-here (answered x) → (l : List ℕ) → walk_nodes n s G full low a b x.route ≡ some l
        → (w : ℕ) → (w < length l) ↔ ((x.report ≡ none → ⊥) × (w < x.report + 1))
    found_longer x c l e w = ⊎_elim
        (λ z. (λ h. absurd (omega (arith, none_found x c l e z)), λ h. absurd (h.0 z)))
        (λ m.
        let k = (subst (λ (o : Option (List ℕ)). Sound (linked n G) x.report a b o) e (route_sound x c m)).1 in
        (λ h. (m, omega (arith, k)), λ h. omega (arith, k, h.1)))
        (eq_or x.report none)

    -- whatever hubs are taken and whatever the tables hold, a walk given out is a chain of as many links as reported
    pub walk_given_out : (w : ℕ) → Given-out (linked n G) a b w (walk_of w n s G full low a b (pair_by isHub n full low report a b))
    unfolding pair_by walk_of walk_nodes refuse_walk
    walk_given_out w = at (chosen a b (entry_at n report a b) (entry_at n low a b) (attaining isHub n full a b (entry_at n report a b)))
      where
        fitted : (x : Answer) → Chosen-here (answered x) → (x.report ≡ none → ⊥)
            → Given-out (linked n G) a b w (fit w x (walk_nodes n s G full low a b x.route))
        fitted x c m = fit_outcome (linked n G) a b w x (walk_nodes n s G full low a b x.route) (route_sound x c m)

        at : {q : Outcome Answer} → Chosen-here q → Given-out (linked n G) a b w (walk_of w n s G full low a b q)
        at (to_itself e z) = fitted _ (to_itself e z) (λ q. omega arith)
        at (to_none x e) = fit_none _ _ _ _
        at (to_link x e) = fitted _ (to_link x e) (λ q. omega arith)
        at (to_low x f o e) = fitted _ (to_low x f o e) f
        at (to_hub_lem x f o y z) = fitted _ (to_hub_lem x f o y z) f
        at (bad_itself e f) = refusal 11
        at (bad_hub x f o y z) = refusal 11
