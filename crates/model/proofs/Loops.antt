-- Laws for loops over a list: the result for the whole list follows from what was found so far and what is left.
-- Assumes nothing.
use mathlib.Core.Path.{◌≡◌, sym, ap, ap₂, ◌∙◌, subst}
use mathlib.Core.Logic.{⊎_elim}
use mathlib.Core.Bool.{Bool, true, false}
use mathlib.Core.List.{List, [], ◌∷◌, ◌++◌}
use Prim.Native.Nat.{ℕ, suc, ◌+◌, ◌-◌, ◌≤◌, ◌<◌}
use native.Mathlib.Numerals.{add-one}
use native.Mathlib.Omega.{arith}
use borrow.Author.Tests.{le-ltb}
use lib.Dec.{ltb, lt→ltb, ltb→lt}
use lib.ListN.{length, get_or, drop, drop_of_length-le}
use lib.Seq.{drop-cons}
use Rattle.model.specs.Basics.{from, up_to, keep, first_of, gather}
use Rattle.model.proofs.Tests.{eq_or}
use Rattle.model.proofs.Lists.{of_up_to, of_from, from_split, keep_append, keep_none, keep_all}

-- the element at i, and those after it
pub drop_next : (l : List ℕ) (i : ℕ) → i < length l → drop i l ≡ get_or l i 0 ∷ drop (i + 1) l
drop_next l i h = drop-cons _ _ _ h ∙ ap (λ (k : ℕ). get_or l i 0 ∷ drop k l) (sym (add-one i))

-- a search for the first element that passes a test: while none has passed, it is the first of those that are left
module _ (p : ℕ → Bool) (d : ℕ) (l : List ℕ) where
  abbrev pub Searched : ℕ → Type 0
  Searched i = first_of p d (drop i l) ≡ first_of p d l

  pub searched_found : (i : ℕ) → first_of p d (drop i l) ≡ first_of p d l → i < length l → p (get_or l i 0) ≡ true → get_or l i 0 ≡ first_of p d l
  unfolding first_of
  searched_found i s h e = rw (← s, drop_next l i h, e)

  pub searched_more : (i : ℕ) → first_of p d (drop i l) ≡ first_of p d l → i < length l → p (get_or l i 0) ≡ false
      → first_of p d (drop (i + 1) l) ≡ first_of p d l
  unfolding first_of
  searched_more i s h e = rw (← s, drop_next l i h, e)

  pub searched_all : (i : ℕ) → first_of p d (drop i l) ≡ first_of p d l → length l ≤ i → d ≡ first_of p d l
  unfolding first_of
  searched_all i s h = rw (← s, drop_of_length-le l h)

-- what holds below v, and at v, holds below v + 1
pub below_next : (P : ℕ → Type 0) (v : ℕ) → ((u : ℕ) → u < v → P u) → P v → (u : ℕ) → u < v + 1 → P u
below_next P v f p u h = ⊎_elim (λ e. subst P (sym e) p) (λ d. f u (omega arith)) (eq_or u v)

-- the lists f x for the numbers x from v up to n: the first of them, then the others
pub gather_next : {B : Type 0} (f : ℕ → List B) (n v : ℕ) → v < n → gather f (from v (n - v)) ≡ f v ++ gather f (from (v + 1) (n - (v + 1)))
unfolding from gather
gather_next f n v h =
    let e : n - v ≡ suc (n - (v + 1)) = omega arith in
    ap (λ (k : ℕ). gather f (from v k)) e
    ∙ ap (λ (u : ℕ). f v ++ gather f (from u (n - (v + 1)))) (sym (add-one _))

pub gather_end : {B : Type 0} (f : ℕ → List B) (n v : ℕ) → n ≤ v → gather f (from v (n - v)) ≡ []
unfolding from gather
gather_end f n v h = let e : n - v ≡ 0 = omega arith in rw e

-- of the numbers below n, those above a are the numbers from a + 1 on
pub above : (a n : ℕ) → a < n → keep (λ b. ltb a b) (up_to n) ≡ from (a + 1) (n - (a + 1))
unfolding keep
above a n h =
    let k = n - (a + 1) in
    let e : a + suc k ≡ n = omega arith in
    let p : ℕ → Bool = λ b. ltb a b in
    ap (keep p) (from_split _ _ _ e)
    ∙ keep_append _ (up_to a) (a ∷ from (suc a) k)
    ∙ ap₂ (λ (x y : List ℕ). x ++ y)
    (keep_none p (up_to a) (λ x m t. absurd (omega (arith, of_up_to a x m, ltb→lt a x t))))
    (rw (le-ltb a a (omega arith)) (keep_all p (from (suc a) k) (λ x m. lt→ltb a x (omega (arith, (of_from (suc a) k x m).0)))))
    ∙ ap (λ (u : ℕ). from u k) (sym (add-one a))
