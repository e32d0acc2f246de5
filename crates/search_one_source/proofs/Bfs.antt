-- Breadth-first search finds the fewest links: the argument over the row and the queue alone, for any links.
-- Assumes nothing.
use mathlib.Core.Path.{◌≡◌, refl, sym, ap, ◌∙◌, subst, subst₂}
use mathlib.Core.Logic.{◌⊎◌, inl, inr, ⊎_elim}
use mathlib.Core.Bool.{Bool, true, false}
use mathlib.Core.List.{List, [], ◌∷◌, map}
use Prim.Native.Nat.{ℕ, ◌+◌, ◌≤◌, ◌<◌}
use native.Mathlib.Nat.{le_refl, le_trans}
use native.Mathlib.Numerals.{add-one}
use native.Mathlib.Omega.{arith}
use borrow.Author.Tests.{eqb-true, eqb-false, eq-eqb, ne_eqb}
use lib.Dec.{T, eqb}
use lib.ListN.{length, get_or, length-set, length-append, get_or-append}
use lib.Seq.{get_or-set_same, get_or-set_other, get_or_at}
use Rattle.model.specs.Basics.{none, has, up_to}
use Rattle.std.specs.Prelude.{if◌then◌else◌}
use Rattle.model.specs.Graph.{Edges, Chain, here, link, Unjoined, Fewest, fewest}
use Rattle.model.proofs.Tests.{eq_or, lt_or}
use Rattle.model.proofs.Lists.{none_in, of_single, of_cons, has_head, has_tail}
use Rattle.model.proofs.Loops.{below_next}
use Rattle.model.proofs.Chains.{snoc, fewest_of, fewest_missing}
use Rattle.base_lists.proofs.TableRows.{is_row}
use Rattle.search_queue.specs.Visiting.{Progress, unreached, joined, visited, visited_all}
use Rattle.search_queue.proofs.Visiting.{unreached_set, some_unreached}

-- the distance of a node
abbrev pub away : Progress → ℕ → ℕ
away p v = get_or p.row v 0

-- the node at index i of the queue, and its distance
abbrev pub at : Progress → ℕ → ℕ
at p i = get_or p.queue i 0

abbrev pub dist : Progress → ℕ → ℕ
dist p i = away p (at p i)

-- a node is in the queue; and with a distance of at most d
abbrev pub Queued : Progress → ℕ → Type 0
Queued p v = (i : ℕ) × (i < p.tail) × (at p i ≡ v)

abbrev pub Within : Progress → ℕ → ℕ → Type 0
Within p d v = (i : ℕ) × (i < p.tail) × (at p i ≡ v) × (dist p i ≤ d)

-- a search from s over the n nodes of a row, between two turns: the nodes of the queue before the head were taken. At the start the entries
-- of c nodes, which the search may enter, were none
pub record Invariant (E : Edges) (s n : ℕ) (row₀ : List ℕ) (c : ℕ) (p : Progress) (head : ℕ) : Type 0 where
  -- sizes: as many nodes are in the queue as have got a distance
  pub few : c ≤ 1024
  pub row_length : length p.row ≡ n
  pub queue_length : length p.queue ≡ p.tail
  pub count : p.tail + unreached p.row ≡ c
  -- the queue holds the nodes that have got a distance, the source first; the entries of the nodes that may not be entered stay
  pub some : 0 < p.tail
  pub source : at p 0 ≡ s
  pub node : (i : ℕ) → i < p.tail → at p i < n
  pub queued : (v : ℕ) → v < n → get_or row₀ v 0 ≡ none → (away p v ≡ none → ⊥) → Queued p v
  pub closed : (v : ℕ) → (get_or row₀ v 0 ≡ none → ⊥) → away p v ≡ get_or row₀ v 0
  -- the distances: small, each that of a chain, never falling along the queue, and at most one above that of a node not yet taken
  pub small : (i : ℕ) → i < p.tail → dist p i ≤ i
  pub chain : (i : ℕ) → i < p.tail → Chain E (dist p i) s (at p i)
  pub sorted : (i j : ℕ) → i ≤ j → j < p.tail → dist p i ≤ dist p j
  pub near : (i j : ℕ) → head ≤ i → i < p.tail → j < p.tail → dist p j ≤ dist p i + 1
  -- each link of a node that was taken leads to a node of the queue, at most one further
  pub taken : (i w : ℕ) → i < head → i < p.tail → T (E (at p i) w) → Within p (dist p i + 1) w

-- q goes on from p: the nodes of the queue are still there, with their distances
pub record Grown (p q : Progress) : Type 0 where
  pub longer : p.tail ≤ q.tail
  pub same_at : (i : ℕ) → i < p.tail → at q i ≡ at p i
  pub same_dist : (i : ℕ) → i < p.tail → dist q i ≡ dist p i

grown_refl : (p : Progress) → Grown p p
grown_refl p = record { longer = le_refl p.tail; same_at = λ i h. refl; same_dist = λ i h. refl }

grown_trans : {p q r : Progress} → Grown p q → Grown q r → Grown p r
grown_trans g h = record {
  longer = le_trans g.longer h.longer;
  same_at = λ i l. h.same_at i (le_trans l g.longer) ∙ g.same_at i l;
  same_dist = λ i l. h.same_dist i (le_trans l g.longer) ∙ g.same_dist i l;
}

queued_grown : {p q : Progress} {w : ℕ} → Grown p q → Queued p w → Queued q w
queued_grown g r = (r.0, le_trans r.1 g.longer, g.same_at r.0 r.1 ∙ r.2)

-- ---- a node without a distance, linked to the node at the head, joins the queue

module _ {E : Edges} {s n : ℕ} {row₀ : List ℕ} {c : ℕ} {p : Progress} {head : ℕ} (S : Invariant E s n row₀ c p head)
    (l : head < p.tail) (w : ℕ) (hw : w < n) (new : away p w ≡ none) (t : T (E (at p head) w)) where
  abbrev d : ℕ
  d = dist p head + 1

  abbrev p' : Progress
  p' = joined d w p

  in_row : w < length p.row
  in_row = rw S.row_length hw

  room : p.tail < 1024
  room = omega (arith, S.few, S.count, some_unreached p.row w in_row new)

  other : {i : ℕ} → i < p.tail → at p i ≡ w → ⊥
  other {i} h e = omega (arith, S.small i h, room, ap (away p) e ∙ new)

  -- the nodes that were in the queue, and their distances
  old_at : (i : ℕ) → i < p.tail → at p' i ≡ at p i
  old_at i h = get_or-append p.queue (w ∷ []) 0 i (omega (arith, S.queue_length))

  old_dist : (i : ℕ) → i < p.tail → dist p' i ≡ dist p i
  old_dist i h = ap (away p') (old_at _ h) ∙ get_or-set_other p.row w _ d 0 (other h)

  -- the node that joins it, with the greatest distance
  new_at : at p' p.tail ≡ w
  new_at = get_or_at p.queue w [] 0 p.tail S.queue_length

  new_dist : dist p' p.tail ≡ d
  new_dist = ap (away p') new_at ∙ get_or-set_same p.row w d 0 in_row

  new_greatest : (i : ℕ) → i < p.tail + 1 → dist p' i ≤ dist p' p.tail
  new_greatest = below_next (λ (i : ℕ). dist p' i ≤ dist p' p.tail) p.tail
      (λ i h. omega (arith, old_dist i h, new_dist, S.near head i (le_refl _) l h))
      (le_refl (dist p' p.tail))

  join_grown : Grown p p'
  join_grown = record { longer = omega arith; same_at = old_at; same_dist = old_dist }

  join_queued : Queued p' w
  join_queued = (p.tail, omega arith, new_at)

  join_sorted : (i j : ℕ) → i ≤ j → j < p.tail + 1 → dist p' i ≤ dist p' j
  join_sorted i j h k =
      below_next (λ (y : ℕ). i ≤ y → dist p' i ≤ dist p' y) p.tail
      (λ y b a. omega (arith, old_dist i (omega arith), old_dist y b, S.sorted i y a b))
      (λ a. new_greatest _ (omega arith))
      j k h

  join_near : (i j : ℕ) → head ≤ i → i < p.tail + 1 → j < p.tail + 1 → dist p' j ≤ dist p' i + 1
  join_near i j h k m =
      below_next (λ (x : ℕ). head ≤ x → dist p' j ≤ dist p' x + 1) p.tail
      (λ x a g. below_next (λ (y : ℕ). dist p' y ≤ dist p' x + 1) p.tail
      (λ y b. omega (arith, old_dist x a, old_dist y b, S.near x y g a b))
      (omega (arith, old_dist x a, new_dist, S.sorted head x g a))
      j m)
      (λ g. omega (arith, new_greatest j m))
      i k h

  join_all : (v : ℕ) → v < n → get_or row₀ v 0 ≡ none → (away p' v ≡ none → ⊥) → Queued p' v
  join_all v h o f = go (eq_or _ _)
    where
      go : (v ≡ w) ⊎ (v ≡ w → ⊥) → Queued p' v
      go (inl e) = (p.tail, omega arith, new_at ∙ sym e)
      go (inr k) = queued_grown join_grown (S.queued v h o (λ e. f (get_or-set_other p.row w v d 0 k ∙ e)))

  join_closed : (v : ℕ) → (get_or row₀ v 0 ≡ none → ⊥) → away p' v ≡ get_or row₀ v 0
  join_closed v f =
      get_or-set_other p.row w v d 0 (λ (e : v ≡ w). f (sym (S.closed v f) ∙ ap (away p) e ∙ new)) ∙ S.closed v f

  join_taken : {i x : ℕ} → i < head → T (E (at p' i) x) → Within p' (dist p' i + 1) x
  join_taken {i} {x} h u =
      let a : i < p.tail = omega arith in
      let r = S.taken i x h a (rw (old_at i a) at u) in
      (r.0, omega (arith, r.1), old_at r.0 r.1 ∙ r.2, omega (arith, old_dist r.0 r.1, old_dist i a, r.3))

  join : Invariant E s n row₀ c p' head
  join = record {
    few = S.few;
    row_length = length-set p.row w d ∙ S.row_length;
    queue_length = length-append p.queue (w ∷ []) ∙ omega (arith, S.queue_length);
    count = omega (arith, S.count, unreached_set p.row w d in_row new (λ e. omega (arith, S.small head l, room)));
    some = omega arith;
    source = old_at _ S.some ∙ S.source;
    node = below_next (λ (i : ℕ). at p' i < n) p.tail (λ i h. rw (old_at i h) (S.node i h)) (rw new_at hw);
    queued = join_all;
    closed = join_closed;
    small =
        below_next (λ (i : ℕ). dist p' i ≤ i) p.tail (λ i h. rw (old_dist i h) (S.small i h))
        (omega (arith, new_dist, S.small head l));
    chain =
        below_next (λ (i : ℕ). Chain E (dist p' i) s (at p' i)) p.tail
        (λ i h. subst₂ (λ (k x : ℕ). Chain E k s x) (sym (old_dist _ h)) (sym (old_at _ h)) (S.chain i h))
        (subst₂ (λ (k x : ℕ). Chain E k s x) (sym (new_dist ∙ add-one _)) (sym new_at) (snoc (S.chain head l) t));
    sorted = join_sorted;
    near = join_near;
    taken = λ i x h k u. join_taken h u;
  }

-- ---- a node, and each node of a list, is visited

pub record Kept (E : Edges) (s n : ℕ) (row₀ : List ℕ) (c : ℕ) (p : Progress) (head : ℕ) (ws : List ℕ) (q : Progress) : Type 0 where
  pub inv : Invariant E s n row₀ c q head
  pub grown : Grown p q
  pub found : (w : ℕ) → T (has w ws) → get_or row₀ w 0 ≡ none → Queued q w

module _ {E : Edges} {s n : ℕ} {row₀ : List ℕ} {c head : ℕ} where
  -- a node whose entry is none may be entered
  open_still : {p : Progress} → Invariant E s n row₀ c p head → (w : ℕ) → away p w ≡ none → get_or row₀ w 0 ≡ none
  open_still S w e = ⊎_elim (λ o. o) (λ f. sym (S.closed w f) ∙ e) (eq_or _ _)

  one : {p : Progress} {d w : ℕ} → Invariant E s n row₀ c p head → head < p.tail → d ≡ dist p head + 1 → w < n
      → (get_or row₀ w 0 ≡ none → T (E (at p head) w)) → Kept E s n row₀ c p head (w ∷ []) (visited d w p)
  unfolding visited
  one {p} {d} {w} S l e hw ok = go (eqb (away p w) none) refl
    where
      only : (q : Progress) → (get_or row₀ w 0 ≡ none → Queued q w) → (x : ℕ) → T (has x (w ∷ [])) → get_or row₀ x 0 ≡ none → Queued q x
      only q f x m = subst (λ (y : ℕ). get_or row₀ y 0 ≡ none → Queued q y) (sym (of_single x w m)) f

      go : (b : Bool) → eqb (away p w) none ≡ b → Kept E s n row₀ c p head (w ∷ []) (if b then joined d w p else p)
      go true g =
          let new = eqb-true (away p w) none g in
          let t = ok (open_still S w new) in
          let queued = only (joined (dist p head + 1) w p) (λ o. join_queued S l w hw new t) in
          rw e (record { inv = join S l w hw new t; grown = join_grown S l w hw new t; found = queued })
      go false g = record { inv = S; grown = grown_refl p; found = only p (λ o. S.queued w hw o (eqb-false (away p w) none g)) }

  pub all_keep : (ws : List ℕ) (p : Progress) (d : ℕ) → Invariant E s n row₀ c p head → head < p.tail → d ≡ dist p head + 1
      → ((w : ℕ) → T (has w ws) → (w < n) × (get_or row₀ w 0 ≡ none → T (E (at p head) w)))
      → Kept E s n row₀ c p head ws (visited_all d ws p)
  unfolding visited_all
  all_keep [] p d S l e ok = record { inv = S; grown = grown_refl _; found = λ w h. absurd (none_in w h) }
  all_keep (w ∷ ws) p d S l e ok =
      let o = ok w (has_head _ _) in
      let a = one S l e o.0 o.1 in
      let b = all_keep ws (visited d w p) d a.inv (omega (arith, a.grown.longer)) (omega (arith, a.grown.same_dist head l))
      (λ x h. ((ok x (has_tail _ _ _ h)).0, λ u. rw (a.grown.same_at head l) ((ok x (has_tail _ _ _ h)).1 u))) in
      record { inv = b.inv; grown = grown_trans a.grown b.grown; found = λ x h u. go x a b (of_cons x w ws h) u }
    where
      go : {q r : Progress} (x : ℕ) → Kept E s n row₀ c p head (w ∷ []) q → Kept E s n row₀ c q head ws r
          → (x ≡ w) ⊎ T (has x ws) → get_or row₀ x 0 ≡ none → Queued r x
      go x a b (inl e) u = queued_grown b.grown (a.found x (subst (λ (y : ℕ). T (has y (w ∷ []))) (sym e) (has_head _ _)) u)
      go x a b (inr m) u = b.found x m u

-- ---- the head moves on, once each link of the nodes that it passes leads to a node of the queue

pub advance : {E : Edges} {s n : ℕ} {row₀ : List ℕ} {c : ℕ} {p : Progress} {head : ℕ} → Invariant E s n row₀ c p head
    → (head' : ℕ) → head ≤ head' → ((i w : ℕ) → head ≤ i → i < head' → i < p.tail → T (E (at p i) w) → Queued p w)
    → Invariant E s n row₀ c p head'
advance {head = head} S head' l all = record {
  few = S.few;
  row_length = S.row_length;
  queue_length = S.queue_length;
  count = S.count;
  some = S.some;
  source = S.source;
  node = S.node;
  queued = S.queued;
  closed = S.closed;
  small = S.small;
  chain = S.chain;
  sorted = S.sorted;
  near = λ i j h. S.near i j (omega arith);
  taken = λ i w h k t. ⊎_elim
      (λ b. S.taken i w b k t)
      (λ b. let r = all i w b h k t in (r.0, r.1, r.2, S.near i r.0 b k r.1))
      (lt_or _ _);
}

-- ---- the end: every node of the queue was taken

module _ {E : Edges} {s n : ℕ} {row₀ : List ℕ} {c : ℕ} {p : Progress} {head : ℕ} (S : Invariant E s n row₀ c p head) (l : p.tail ≤ head) where
  -- what a chain of k links reaches from a node of the queue is in the queue, at most k further
  along : {k a b : ℕ} → Chain E k a b → (i : ℕ) → i < p.tail → at p i ≡ a → Within p (dist p i + k) b
  along here i h e = (i, h, e, omega arith)
  along (link {k = k} {b = b} t r) i h e =
      let c = S.taken i b (omega arith) h (rw e t) in
      let z = along r c.0 c.1 c.2 in
      (z.0, z.1, z.2, omega (arith, z.3, c.3))

  from_source : {k v : ℕ} → Chain E k s v → Within p k v
  from_source r = let z = along r 0 S.some S.source in (z.0, z.1, z.2, omega (arith, z.3, S.small 0 S.some))

  unreached_apart : (v : ℕ) → away p v ≡ none → Unjoined E s v
  unreached_apart v e k r =
      let z = from_source r in
      omega (arith, S.few, S.count, S.small z.0 z.1, z.1, ap (away p) z.2 ∙ e)

  reached_fewest : {v : ℕ} → Queued p v → Fewest E s v (away p v)
  reached_fewest {v} r =
      let e : dist p r.0 ≡ away p v = ap (away p) r.2 in (
        subst₂ (λ (d x : ℕ). Chain E d s x) e r.2 (S.chain r.0 r.1),
        λ k c. let z = from_source c in omega (arith, z.3, ap (away p) z.2),
      )

  pub distances : ((u v : ℕ) → u < n → T (E u v) → v < n) → s < n
      → p.row ≡ map (λ v. if eqb (get_or row₀ v 0) none then fewest E n s v else get_or row₀ v 0) (up_to n)
  distances ends hs = is_row n _ p.row S.row_length (λ v b. go v b (eq_or (get_or row₀ v 0) none) (eq_or (away p v) none))
    where
      go : (v : ℕ) → v < n → (get_or row₀ v 0 ≡ none) ⊎ (get_or row₀ v 0 ≡ none → ⊥) → (away p v ≡ none) ⊎ (away p v ≡ none → ⊥)
          → away p v ≡ (if eqb (get_or row₀ v 0) none then fewest E n s v else get_or row₀ v 0)
      go v b (inl o) (inl e) = rw (eq-eqb (get_or row₀ v 0) none o) (e ∙ sym (fewest_missing E n s ends hs v (unreached_apart v e)))
      go v b (inl o) (inr f) =
          rw (eq-eqb (get_or row₀ v 0) none o) (sym (fewest_of E n s ends hs v (away p v) (reached_fewest (S.queued v b o f))))
      go v b (inr k) e = rw (ne_eqb (get_or row₀ v 0) none k) (S.closed v k)
