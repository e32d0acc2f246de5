-- A search through the open nodes of a graph: how it starts, one turn of its loop, and what the row holds at the end.
-- Assumes nothing.
use mathlib.Core.Path.{◌≡◌, refl, sym, ap, ap₂, ◌∙◌, subst, subst₂}
use mathlib.Core.Logic.{◌⊎◌, inl, inr}
use mathlib.Core.Bool.{Bool, ◌&&◌}
use mathlib.Core.List.{List, [], ◌∷◌}
use Prim.Native.Nat.{ℕ, zero, suc, ◌+◌, ◌≤◌, ◌<◌}
use native.Mathlib.Nat.{not-suc-le-zero, le_refl}
use native.Mathlib.Omega.{arith}
use lib.Dec.{T, eqb→eq}
use lib.ListN.{length, get_or, set, length-set}
use lib.Seq.{get_or-set_same, get_or-set_other, get_or-take, length-take-le}
use Rattle.model.specs.Basics.{none, has}
use Rattle.model.specs.Graph.{Edges, between, Chain, here, linked}
use Rattle.model.specs.Survey.{Graph, IsGraph}
use Rattle.model.proofs.TableLaws.{chain_allowed}
use Rattle.model.proofs.Tests.{and_l, and_r, and_i, eq_or, eq_T}
use Rattle.model.proofs.Lists.{keep_length}
use Rattle.model.proofs.Acceptance.{linked_has, linked_of, linked_ends}
use Rattle.search_queue.specs.Visiting.{Progress, progress, unreached, visited_all}
use Rattle.search_queue.proofs.Visiting.{unreached_set, some_unreached}
use Rattle.search_one_source.specs.OpenNodes.{is_open, searched}
use Rattle.search_one_source.proofs.Bfs.{away, at, dist, Queued, Invariant, Kept, all_keep, advance, distances}

-- no more nodes are open than there are
pub few_open : (row : List ℕ) → unreached row ≤ length row
unfolding unreached
few_open row = keep_length _ row

-- the entry of an open node, written and then none again
pub set_back : (row : List ℕ) (v d : ℕ) → get_or row v 0 ≡ none → row ≡ set (set row v d) v none
set_back [] v d e = refl
set_back (x ∷ row) zero d e = ap (λ (y : ℕ). y ∷ row) e
set_back (x ∷ row) (suc v) d e = ap (λ (l : List ℕ). x ∷ l) (set_back row v d e)

-- ---- the start: the source alone has got a distance

module _ (E : Edges) (s n : ℕ) (row₀ : List ℕ) (long : length row₀ ≡ n) (hs : s < n) (open_still : get_or row₀ s 0 ≡ none)
    (c : ℕ) (few : c ≤ 1024) (all : c ≡ unreached row₀) (list : List ℕ) (room : 0 < length list) (is-first : get_or list 0 0 ≡ s) where
  abbrev p : Progress
  p = progress (set row₀ s 0) list 1

  first : at p 0 ≡ s
  first = get_or-take 1 list 0 0 (omega arith) ∙ is-first

  dist_source : dist p 0 ≡ 0
  dist_source = ap (away p) first ∙ get_or-set_same row₀ s 0 0 (rw long hs)

  is_zero : (P : ℕ → Type 0) → P 0 → (i : ℕ) → i < 1 → P i
  is_zero P z i h = subst P (omega arith) z

  only : (v : ℕ) → v < n → get_or row₀ v 0 ≡ none → (away p v ≡ none → ⊥) → Queued p v
  only v h o f = go (eq_or _ _)
    where
      go : (v ≡ s) ⊎ (v ≡ s → ⊥) → Queued p v
      go (inl e) = (0, omega arith, first ∙ sym e)
      go (inr k) = absurd (f (get_or-set_other row₀ s v 0 0 k ∙ o))

  alone : Invariant E s n row₀ c p 0
  alone = record {
    few = few;
    row_length = length-set row₀ s 0 ∙ long;
    queue_length = length-take-le 1 list room;
    count = omega (arith, unreached_set row₀ s 0 (rw long hs) open_still (λ e. omega arith));
    some = omega arith;
    source = first;
    node = is_zero (λ (i : ℕ). at p i < n) (rw first hs);
    queued = only;
    closed = λ v f. get_or-set_other row₀ s v 0 0 (λ (e : v ≡ s). f (ap (λ (x : ℕ). get_or row₀ x 0) e ∙ open_still));
    small = is_zero (λ (i : ℕ). dist p i ≤ i) (omega (arith, dist_source));
    chain = is_zero (λ (i : ℕ). Chain E (dist p i) s (at p i)) (subst₂ (λ (k x : ℕ). Chain E k s x) (sym dist_source) (sym first) here);
    sorted = λ i j h k. let e : i ≡ j = omega arith in rw e (le_refl _);
    near = λ i j h k m. is_zero (λ (y : ℕ). dist p y ≤ dist p i + 1) (omega (arith, dist_source)) j m;
    taken = λ i w h. absurd (not-suc-le-zero h);
  }

-- ---- links between allowed nodes

module _ (allowed : ℕ → Bool) (E : Edges) where
  between_is : (a b : ℕ) → T (allowed a) → T (allowed b) → T (E a b) → T (between allowed E a b)
  between_is a b s t l = and_i (allowed _ && allowed _) _ (and_i (allowed _) (allowed _) s t) l

  pub of_between : (a b : ℕ) → T (between allowed E a b) → T (allowed b) × T (E a b)
  of_between a b t = (and_r (allowed a) (allowed _) (and_l (allowed _ && allowed _) (E a b) t), and_r (allowed a && allowed b) (E a b) t)

-- ---- the loop

-- the links that a search may use
abbrev pub edges : ℕ → Graph → List ℕ → Edges
edges n G row₀ = between (is_open row₀) (linked n G)

abbrev pub Searching : (n : ℕ) (G : Graph) (s : ℕ) (row₀ : List ℕ) (c : ℕ) (p : Progress) (head : ℕ) → Type 0
Searching n G s row₀ c p head = Invariant (edges n G row₀) s n row₀ c p head

pub search_start : {n : ℕ} (G : Graph) {s : ℕ} (row₀ list : List ℕ) {c : ℕ} → length row₀ ≡ n → s < n → get_or row₀ s 0 ≡ none → c ≤ 1024
    → c ≡ unreached row₀ → 0 < length list → get_or list 0 0 ≡ s → Searching n G s row₀ c (progress (set row₀ s 0) list 1) 0
search_start {n} G row₀ list long hs o few all room first = alone (edges n G row₀) _ n row₀ long hs o _ few all list room first

-- a turn of the loop, which visits the neighbours of the node at the head
module _ {n : ℕ} (G : Graph) {s : ℕ} {row₀ row : List ℕ} (list : List ℕ) {c tail head : ℕ}
    (S : Searching n G s row₀ c (progress row list tail) head) (l : head < tail) where
  abbrev before : Progress
  before = progress row list tail

  abbrev v : ℕ
  v = get_or list head 0

  v_is : at before head ≡ v
  v_is = get_or-take tail list head 0 l

  pub head_below : v < n
  head_below = rw (← v_is) (S.node head l)

  pub head_near : get_or row v 0 ≤ head
  head_near = rw (← v_is) (S.small head l)

  module _ (g : IsGraph n G) {own : List ℕ} (e : own ≡ G v) where
    pub own_below : (w : ℕ) → T (has w own) → w < length row
    own_below w h = rw S.row_length (g.below v w head_below (rw e at h))

    -- and the search goes on to the next node of the queue
    module _ (o : get_or row₀ s 0 ≡ none) {q : Progress} (f : q ≡ visited_all (get_or row v 0 + 1) own before) where
      kept : Kept (edges n G row₀) s n row₀ c before head (G v) q
      kept =
          let from : T (is_open row₀ (at before head)) = chain_allowed (is_open row₀) (linked n G) (S.chain head l) (eq_T _ none o) in
          let from_v : T (is_open row₀ v) = rw v_is at from in
          let found : q ≡ visited_all (dist before head + 1) (G v) before =
          f ∙ ap₂ (λ (x : ℕ) (ws : List ℕ). visited_all (get_or row x 0 + 1) ws before) (sym v_is) e in
          rw found (all_keep _ _ _ S l refl
          (λ w m. (g.below v w head_below m, λ u. rw (v_is) (between_is (is_open row₀) (linked n G) v w from_v (eq_T _ none u) (linked_of n G g v w head_below m)))))

      -- the links of the node at the head lead to nodes of the queue
      taken : (w : ℕ) → T (edges n G row₀ (at q head) w) → Queued q w
      taken w u =
          let both = of_between (is_open row₀) (linked n G) v w (rw (kept.grown.same_at head l ∙ v_is) at u) in
          kept.found _ (linked_has n G v w both.1) (eqb→eq _ none both.0)

      pub search_turn : Searching n G s row₀ c q (head + 1)
      search_turn = advance kept.inv _ (omega arith)
          (λ i w h k m u. taken w (subst (λ (j : ℕ). T (edges n G row₀ (at q j) w)) (omega arith) u))

-- where no open node is left, the links of all nodes of the queue lead to nodes of the queue
pub search_stop : {n : ℕ} (G : Graph) {s : ℕ} {row₀ : List ℕ} {c : ℕ} {p : Progress} {head : ℕ} → Searching n G s row₀ c p head
    → head ≤ p.tail → p.tail ≡ c → Searching n G s row₀ c p p.tail
search_stop {n} G {row₀ = row₀} {p = p} {head = head} S l z = advance S p.tail l queued
  where
    queued : (i w : ℕ) → head ≤ i → i < p.tail → i < p.tail → T (edges n G row₀ (at p i) w) → Queued p w
    queued i w h k m u =
        let both = of_between (is_open row₀) (linked n G) (at p i) w u in
        let below = linked_ends n G _ w (S.node i k) both.1 in
        S.queued _ below (eqb→eq _ none both.0)
        (λ x. omega (arith, some_unreached p.row w (rw S.row_length below) x, S.count))

-- the end
pub search_end : {n : ℕ} (G : Graph) {s : ℕ} {row₀ : List ℕ} {c : ℕ} {p : Progress} {head : ℕ} → Searching n G s row₀ c p head
    → p.tail ≤ head → s < n → p.row ≡ searched n (linked n G) s row₀
unfolding searched
search_end {n} G {row₀ = row₀} S l = distances S l (λ u v h t. linked_ends n G u v h (of_between (is_open row₀) (linked n G) u v t).1)
