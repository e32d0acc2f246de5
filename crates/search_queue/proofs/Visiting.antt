-- Laws of visiting: one node, and a list's nodes in turn.
-- Assumes nothing.
use mathlib.Core.Path.{◌≡◌, refl, sym, ap, ◌∙◌}
use mathlib.Core.Logic.{⊎_elim}
use mathlib.Core.Bool.{Bool, true, false}
use mathlib.Core.List.{List, [], ◌∷◌, ◌++◌}
use Prim.Native.Nat.{ℕ, zero, suc, ◌+◌, ◌≤◌, ◌<◌}
use native.Mathlib.Nat.{not-suc-le-zero, le_of_suc-le-suc, le_refl, le_trans}
use native.Mathlib.Numerals.{add-one}
use native.Mathlib.Omega.{arith}
use borrow.Author.Tests.{eq-eqb, ne_eqb}
use lib.Dec.{T, eqb, eqb→eq}
use lib.ListN.{length, get_or, set, take, drop, replicate, length-set, drop_of_length-le}
use lib.Seq.{take-set-le, take-suc-set, set-get_or}
use Rattle.model.specs.Basics.{none, has, keep}
use Rattle.std.specs.Prelude.{if◌then◌else◌}
use Rattle.model.proofs.Tests.{picked, true_T, eq_or}
use Rattle.model.proofs.Lists.{has_head, has_tail}
use Rattle.model.proofs.Loops.{drop_next}
use Rattle.search_queue.specs.Visiting.{unreached, Progress, progress, joined, visited, visited_all}

-- ---- nodes without a distance

-- a node that gets a distance leaves one fewer without
pub unreached_set : (l : List ℕ) (i d : ℕ) → i < length l → get_or l i 0 ≡ none → (d ≡ none → ⊥)
    → suc (unreached (set l i d)) ≡ unreached l
unfolding unreached keep
unreached_set [] i d h e f = absurd (not-suc-le-zero h)
unreached_set (x ∷ xs) zero d h e f = rw (eq-eqb x none e, ne_eqb d none f)
unreached_set (x ∷ xs) (suc i) d h e f = at (eqb x none) (unreached_set xs i d (le_of_suc-le-suc h) e f)
  where
    at : (b : Bool) → suc (unreached (set xs i d)) ≡ unreached xs
        → suc (length (if b then x ∷ keep (λ y. eqb y none) (set xs i d) else keep (λ y. eqb y none) (set xs i d)))
        ≡ length (if b then x ∷ keep (λ y. eqb y none) xs else keep (λ y. eqb y none) xs)
    at true r = ap suc r
    at false r = r

pub some_unreached : (l : List ℕ) (i : ℕ) → i < length l → get_or l i 0 ≡ none → 0 < unreached l
some_unreached l i h e = omega (arith, unreached_set l i 0 h e (λ z. omega arith))

pub unreached_all : (n : ℕ) → unreached (replicate n none) ≡ n
unfolding unreached keep
unreached_all zero = refl
unreached_all (suc n) = ap suc (unreached_all n)

-- ---- one node

module _ (d w : ℕ) (p : Progress) where
  -- what holds both where the node joins the queue and where nothing changes
  visited_both : (P : Progress → Type 0) → (get_or p.row w 0 ≡ none → P (joined d w p)) → P p → P (visited d w p)
  unfolding visited
  visited_both P new old =
      picked P (eqb (get_or p.row w 0) none) (joined d w p) p (λ e. new (eqb→eq (get_or p.row w 0) none (true_T _ e))) (λ e. old)

  visited_length : length (visited d w p).row ≡ length p.row
  visited_length = visited_both (λ (q : Progress). length q.row ≡ length p.row) (λ e. length-set p.row w d) refl

  -- as many nodes join the queue as get a distance
  visited_count : w < length p.row → (d ≡ none → ⊥)
      → (visited d w p).tail + unreached (visited d w p).row ≡ p.tail + unreached p.row
  visited_count h f =
      visited_both (λ (q : Progress). q.tail + unreached q.row ≡ p.tail + unreached p.row)
      (λ e. omega (arith, unreached_set p.row w d h e f)) refl

  visited_longer : p.tail ≤ (visited d w p).tail
  visited_longer = visited_both (λ (q : Progress). p.tail ≤ q.tail) (λ e. omega arith) (le_refl p.tail)

  -- where every node has a distance nothing changes
  visited_none : w < length p.row → unreached p.row ≡ 0 → visited d w p ≡ p
  visited_none h z = visited_both (λ (q : Progress). q ≡ p) (λ e. absurd (omega (arith, some_unreached p.row w h e))) refl

pub at_most_one : (b : Bool) → (if b then 1 else 0) ≤ 1
at_most_one true = le_refl 1
at_most_one false = omega arith

-- the code of a visit by a branch
module _ (row list : List ℕ) (tail d w : ℕ) where
  pub visit_old : (get_or row w 0 ≡ none → ⊥) → progress row list tail ≡ visited d w (progress row list tail)
  unfolding visited
  visit_old f = sym (rw (ne_eqb (get_or row w 0) none f) refl)

  pub visit_joined : tail < length list → get_or row w 0 ≡ none
      → progress (set row w d) (set list tail w) (tail + 1) ≡ visited d w (progress row list tail)
  unfolding visited
  visit_joined h e =
      let front : take (tail + 1) (set list tail w) ≡ take tail list ++ w ∷ [] =
      ap (λ (k : ℕ). take k (set list tail w)) (add-one tail) ∙ take-suc-set list tail w h in
      rw (eq-eqb (get_or row w 0) none e) (ap (λ (q : List ℕ). record { row = set row w d; queue = q; tail = tail + 1 }) front)

  -- and without one: the place behind the queue's end is written in any case
  pub visit_is : tail < length list → {entry more : ℕ}
      → entry ≡ (if eqb (get_or row w 0) none then d else get_or row w 0) → more ≡ (if eqb (get_or row w 0) none then 1 else 0)
      → progress (set row w entry) (set list tail w) (tail + more) ≡ visited d w (progress row list tail)
  visit_is h {entry} {more} e m = ⊎_elim same other (eq_or (get_or row w 0) none)
    where
      same : get_or row w 0 ≡ none → progress (set row w entry) (set list tail w) (tail + more) ≡ visited d w (progress row list tail)
      same q = rw (e, m, eq-eqb (get_or row w 0) none q) (visit_joined h q)

      other : (get_or row w 0 ≡ none → ⊥) → progress (set row w entry) (set list tail w) (tail + more) ≡ visited d w (progress row list tail)
      other f =
          let end : tail + 0 ≡ tail = omega arith in
          rw (e, m, ne_eqb (get_or row w 0) none f, end, set-get_or row w 0, take-set-le tail list tail w (le_refl _)) (visit_old f)

-- the queue never gets shorter
pub longer : (d : ℕ) (ws : List ℕ) (p : Progress) {q : Progress} → q ≡ visited_all d ws p → p.tail ≤ q.tail
unfolding visited_all
longer d ws p e = rw e (all ws p)
  where
    all : (ws : List ℕ) (p : Progress) → p.tail ≤ (visited_all d ws p).tail
    all [] p = le_refl p.tail
    all (w ∷ ws) p = le_trans (visited_longer _ _ _) (all ws (visited d w p))

-- ---- a list's nodes: after i of them, visiting the others gives what visiting all gives from the start

pub record Visiting (d : ℕ) (ws : List ℕ) (c : ℕ) (p₀ : Progress) (i : ℕ) (p : Progress) : Type 0 where
  pub within : i ≤ length ws
  pub same : length p.row ≡ length p₀.row
  pub count : p.tail + unreached p.row ≡ c
  pub rest : visited_all d (drop i ws) p ≡ visited_all d ws p₀
  pub below : (w : ℕ) → T (has w (drop i ws)) → w < length p.row

pub visiting_start : {d : ℕ} {ws : List ℕ} {c : ℕ} {p : Progress} → p.tail + unreached p.row ≡ c
    → ((w : ℕ) → T (has w ws) → w < length p.row) → Visiting d ws c p 0 p
visiting_start e below = record { within = omega arith; same = refl; count = e; rest = refl; below = below }

module _ {d : ℕ} {ws : List ℕ} {c : ℕ} {p₀ : Progress} {i : ℕ} {p : Progress} (v : Visiting d ws c p₀ i p) where
  module _ (h : i < length ws) where
    next : drop i ws ≡ get_or ws i 0 ∷ drop (i + 1) ws
    next = drop_next ws i h

    pub next_below : get_or ws i 0 < length p.row
    next_below = v.below (get_or ws i 0) (rw next (has_head _ _))

    pub visiting_next : d < none → {q : Progress} → q ≡ visited d (get_or ws i 0) p → Visiting d ws c p₀ (i + 1) q
    unfolding visited_all
    visiting_next l e = rw e (record {
      within = omega arith;
      same = visited_length _ _ _ ∙ v.same;
      count = visited_count _ _ _ next_below (λ z. omega arith) ∙ v.count;
      rest = sym (ap (λ (l : List ℕ). visited_all d l p) next) ∙ v.rest;
      below = λ w t. rw visited_length (v.below w (rw next (has_tail _ _ _ t)));
    })

  pub visiting_all : length ws ≤ i → p ≡ visited_all d ws p₀
  unfolding visited_all
  visiting_all h = rw (drop_of_length-le ws {i = i} h) at v.rest

  -- the queue has all nodes that can be found, so the other nodes change nothing
  pub visiting_none : p.tail ≡ c → p ≡ visited_all d ws p₀
  unfolding visited_all
  visiting_none e = sym (none_left (drop i ws) v.below) ∙ v.rest
    where
      none_left : (us : List ℕ) → ((w : ℕ) → T (has w us) → w < length p.row) → visited_all d us p ≡ p
      none_left [] b = refl
      none_left (u ∷ us) b =
          rw (visited_none d u p (b u (has_head _ _)) (omega (arith, v.count))) (none_left us (λ w t. b w (has_tail _ _ _ t)))
