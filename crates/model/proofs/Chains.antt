-- Chains, by their count of links and as lists of nodes. `fewest` is the least number of links in a chain, for any graph whose links
-- lead from nodes below n to nodes below n.
-- Assumes nothing.
use mathlib.Core.Path.{◌≡◌, refl, ap}
use mathlib.Core.Logic.{◌⊎◌, inl, inr, ⊎_elim}
use mathlib.Core.List.{List, [], ◌∷◌}
use Prim.Native.Nat.{ℕ, zero, suc, ◌+◌, ◌≤◌, ◌<◌, suc-le-suc, zero-le}
use native.Mathlib.Nat.{zero-add, suc-add, le_step, le_refl, le_antisymm}
use native.Mathlib.Omega.{arith}
use lib.Dec.{T}
use lib.ListN.{length}
use Rattle.model.specs.Basics.{none, up_to, has, keep}
use Rattle.model.specs.Graph.{Edges, Chain, here, link, Fewest, Walked, stop, go, reach, fewest, Unjoined}
use Rattle.model.proofs.Tests.{or_l, or_r, or_e}
use Rattle.model.proofs.Lists.{has_head, of_single, any_of, of_any, has_keep, of_keep, has_up_to, of_up_to, First}
use Rattle.model.proofs.Lists.{found, nothing, first_below, keep_grows, keep_length, length_up_to, length_pos}

module _ {E : Edges} where
  -- one link more at the end
  pub snoc : {k a b c : ℕ} → Chain E k a b → T (E b c) → Chain E (suc k) a c
  snoc here t = link t here
  snoc (link s r) t = link s (snoc r t)

  -- the last link taken off
  unsnoc : {k a b c : ℕ} → T (E a b) → Chain E k b c → (u : ℕ) × Chain E k a u × T (E u c)
  unsnoc {a = a} t here = (a, here, t)
  unsnoc t (link s r) = let i = unsnoc s r in (i.0, link t i.1, i.2)

  pub split_last : {k a c : ℕ} → Chain E (suc k) a c → (u : ℕ) × Chain E k a u × T (E u c)
  split_last (link t r) = unsnoc t r

  pub chain_zero : {a b : ℕ} → Chain E zero a b → a ≡ b
  chain_zero here = refl

  pub chain_one : {a b : ℕ} → Chain E (suc zero) a b → T (E a b)
  chain_one (link t here) = t

  -- a chain has no link, or a first one
  pub split_first : {k a b : ℕ} → Chain E k a b → (a ≡ b) ⊎ ((i x : ℕ) × (k ≡ suc i) × T (E a x) × Chain E i x b)
  split_first here = inl refl
  split_first (link {k = i} {b = x} t r) = inr (i, x, refl, t, r)

  pub append : {j k a b c : ℕ} → Chain E j a b → Chain E k b c → Chain E (j + k) a c
  append here q = rw (zero-add _) q
  append (link t p) q = rw (suc-add _ _) (link t (append p q))

  pub turn : ((u v : ℕ) → T (E u v) → T (E v u)) → {k a b : ℕ} → Chain E k a b → Chain E k b a
  turn f here = here
  turn f (link t r) = snoc (turn f r) (f _ _ t)

  pub widen : {F : Edges} → ((u v : ℕ) → T (E u v) → T (F u v)) → {k a b : ℕ} → Chain E k a b → Chain F k a b
  widen f here = here
  widen f (link t r) = link (f _ _ t) (widen f r)

  -- a chain that is written out as its list of nodes has one link fewer than nodes; and each chain can be written out
  pub walked_chain : {l : List ℕ} {a b : ℕ} → Walked E l a b → (k : ℕ) × (length l ≡ suc k) × Chain E k a b
  walked_chain stop = (0, refl, here)
  walked_chain (go t w) = let c = walked_chain w in (suc c.0, ap suc c.1, link t c.2)

  pub chain_walked : {k a b : ℕ} → Chain E k a b → (l : List ℕ) × (length l ≡ suc k) × Walked E l a b
  chain_walked (here {a = a}) = (a ∷ [], refl, stop)
  chain_walked (link {a = a} t c) = let w = chain_walked c in (a ∷ w.0, ap suc w.1, go t w.2)

-- where links lead from nodes below n to nodes below n, so do chains
pub inside : {E : Edges} {n : ℕ} → ((u v : ℕ) → u < n → T (E u v) → v < n) → {k b v : ℕ} → b < n → Chain E k b v → v < n
inside ends h here = h
inside ends h (link t r) = inside ends (ends _ _ h t) r

module _ (E : Edges) (n a : ℕ) where
  -- v is reached with k links
  abbrev pub Reached : ℕ → ℕ → Type 0
  Reached k v = T (has v (reach E n a k))

  -- layer j + 1 adds nothing to layer j
  abbrev Stable : ℕ → Type 0
  Stable j = (v : ℕ) → Reached (suc j) v → Reached j v

  -- a node that is reached with k + 1 links is reached with k, or linked from one that is
  pub grown : (k v : ℕ) → Reached (suc k) v → (v < n) × (Reached k v ⊎ ((u : ℕ) × Reached k u × T (E u v)))
  unfolding reach
  grown k v h =
      let r = reach E n a k in
      let i = of_keep _ _ _ h in
      (of_up_to _ _ i.0, ⊎_elim inl (λ s. inr (of_any (λ u. E u v) _ s)) (or_e (has v r) _ i.1))

  pub stay : (k v : ℕ) → v < n → Reached k v → Reached (suc k) v
  unfolding reach
  stay k v b h =
      let r = reach E n a k in
      has_keep _ _ _ (has_up_to _ _ b) (or_l (has v r) _ h)

  pub step : (k u v : ℕ) → v < n → Reached k u → T (E u v) → Reached (suc k) v
  unfolding reach
  step k u v b h t =
      let r = reach E n a k in
      has_keep _ _ _ (has_up_to _ _ b) (or_r (has v r) _ (any_of _ _ _ h t))

  -- what is reached with k links is joined by a chain of k or fewer
  sound : (k v : ℕ) → Reached k v → (j : ℕ) × (j ≤ k) × Chain E j a v
  unfolding reach
  sound zero v h = (0, zero-le, rw (of_single _ _ h) here)
  sound (suc k) v h = ⊎_elim
      (λ s. let i = sound k _ s in (i.0, le_step i.1, i.2))
      (λ s. let i = sound k s.0 s.1 in (suc i.0, suc-le-suc i.1, snoc i.2 s.2))
      (grown k _ h).1

  module _ (ends : (u v : ℕ) → u < n → T (E u v) → v < n) (start : a < n) where
    -- and the other end of a chain of k links is reached with k
    complete : (k v : ℕ) → Chain E k a v → Reached k v
    unfolding reach
    complete zero v c = rw (← chain_zero c) (has_head _ _)
    complete (suc k) v c =
        let s = split_last c in
        step k _ _ (inside ends start c) (complete k s.0 s.1) s.2

    starts : (k : ℕ) → Reached k a
    unfolding reach
    starts zero = has_head _ _
    starts (suc k) = stay k _ start (starts k)

    -- once a layer adds nothing, no later one does
    stable : (j : ℕ) → Stable j → (k v : ℕ) → Reached k v → Reached j v
    unfolding reach
    stable j f zero v h = rw (of_single _ _ h) (starts j)
    stable j f (suc k) v h =
        let g = grown k _ h in
        ⊎_elim (stable j f k _) (λ s. f v (step j _ _ g.0 (stable j f k s.0 s.1) s.2)) g.1

    count : ℕ → ℕ
    count k = length (keep (λ v. has v (reach E n a k)) (up_to n))

    -- each layer adds a node until one adds nothing
    layers : (k : ℕ) → ((j : ℕ) × (j < k) × Stable j) ⊎ (k < count k)
    unfolding count
    layers zero = inr (length_pos _ _ (has_keep _ _ _ (has_up_to _ _ start) (starts _)))
    layers (suc k) =
        at (layers k) (keep_grows (λ v. has v (reach E n a k)) (λ v. has v (reach E n a (suc k))) (up_to n)
        (λ v b h. stay _ _ (of_up_to _ _ b) h))
      where
        at : ((j : ℕ) × (j < k) × Stable j) ⊎ (k < count k)
            → ((v : ℕ) → T (has v (up_to n)) → Reached (suc k) v → Reached k v) ⊎ (count k < count (suc k))
            → ((j : ℕ) × (j < suc k) × Stable j) ⊎ (suc k < count (suc k))
        at (inl s) g = inl (s.0, le_step s.1, s.2)
        at (inr c) (inl f) = inl (k, le_refl _, λ v h. f v (has_up_to _ _ (grown _ _ h).0) h)
        at (inr c) (inr g) = inr (omega arith)

    -- so a layer below n adds nothing
    settled : (j : ℕ) × (j < n) × Stable j
    unfolding count
    settled = ⊎_elim (λ s. s)
        (λ c. absurd (omega (arith, keep_length (λ v. has v (reach E n a n)) (up_to n), length_up_to n))) (layers _)

    -- and what is reached at all is reached with fewer than n links
    pub reached_below : (k v : ℕ) → Reached k v → (j : ℕ) × (j < n) × Reached j v
    reached_below k v h = let s = settled in (s.0, s.1, stable _ s.2 _ _ h)

    -- what the search for b finds, and what it misses
    pub fewest_cases : (b : ℕ) → ((fewest E n a b < n) × Fewest E a b (fewest E n a b)) ⊎ ((fewest E n a b ≡ none) × Unjoined E a b)
    unfolding fewest
    fewest_cases b = at (first_below (λ k. has b (reach E n a k)) none n)
      where
        at : {r : ℕ} → First (λ k. has b (reach E n a k)) none 0 n r → ((r < n) × Fewest E a b r) ⊎ ((r ≡ none) × Unjoined E a b)
        at {r} (found lo hi t least) =
            let s = sound _ _ t in
            let low : (k : ℕ) → Chain E k a b → r ≤ k = λ k c. fit k (λ h. least k zero-le h (complete _ _ c)) in
            let e : s.0 ≡ r = le_antisymm s.1 (low s.0 s.2) in
            inl (omega arith, (rw e at s.2, low))
          where
            fit : (k : ℕ) → (k < r → ⊥) → r ≤ k
            fit k f = omega arith
        at (nothing e least) =
            let s = settled in
            inr (e, λ k c. least s.0 zero-le (omega arith) (stable _ s.2 _ _ (complete _ _ c)))

-- The same as four facts: what a number other than none says, what none says, and the two converses.
module _ (E : Edges) (n a : ℕ) (ends : (u v : ℕ) → u < n → T (E u v) → v < n) (start : a < n) where
  pub fewest_is : (b : ℕ) → (fewest E n a b ≡ none → ⊥) → Fewest E a b (fewest E n a b)
  fewest_is b h = ⊎_elim (λ s. s.1) (λ s. absurd (h s.0)) (fewest_cases _ _ _ ends start _)

  pub fewest_none : n ≤ none → (b : ℕ) → fewest E n a b ≡ none → Unjoined E a b
  fewest_none m b e = ⊎_elim (λ s. absurd (omega arith)) (λ s. s.1) (fewest_cases E n _ ends start _)

  pub fewest_of : (b d : ℕ) → Fewest E a b d → fewest E n a b ≡ d
  fewest_of b d f = ⊎_elim
      (λ s. le_antisymm (s.1.1 d f.0) (f.1 (fewest E n a b) s.1.0)) (λ s. absurd (s.1 d f.0))
      (fewest_cases _ _ _ ends start _)

  pub fewest_missing : (b : ℕ) → Unjoined E a b → fewest E n a b ≡ none
  fewest_missing b f = ⊎_elim (λ s. absurd (f (fewest E n a b) s.1.0)) (λ s. s.0) (fewest_cases _ _ _ ends start _)
