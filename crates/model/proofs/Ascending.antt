-- Laws of ascending lists. An ascending list of numbers below n is what the test of membership in it keeps of all numbers below n.
-- Assumes nothing.
use mathlib.Core.Path.{◌≡◌, refl, sym, ap, ◌∙◌, subst}
use mathlib.Core.Logic.{◌⊎◌, inl, inr, ⊎_elim}
use mathlib.Core.Bool.{Bool, true, false}
use mathlib.Core.List.{List, [], ◌∷◌, ◌++◌}
use Prim.Native.Nat.{ℕ, zero, suc, ◌+◌, ◌≤◌, ◌<◌, zero-le, suc-le-suc}
use native.Mathlib.Nat.{lt_trans, le_of_suc-le-suc}
use native.Mathlib.Omega.{arith}
use lib.Dec.{T, ltb, ltb→lt, lt→ltb}
use lib.ListN.{length, get_or}
use Rattle.model.specs.Basics.{from, up_to, has, keep}
use Rattle.std.specs.Prelude.{if◌then◌else◌}
use Rattle.model.specs.Survey.{ascending}
use Rattle.model.proofs.Tests.{and_l, and_r, and_i, T_true, no_false, eq_or}
use Rattle.model.proofs.Lists.{has_head, has_tail, has_later, none_in, of_cons, of_keep, of_from, keep_same, keep_none}

pub ascending_tail : (x : ℕ) (xs : List ℕ) → T (ascending (x ∷ xs)) → T (ascending xs)
unfolding ascending
ascending_tail x [] t = tt
ascending_tail x (y ∷ ys) t = and_r (ltb x y) _ t

-- the first entry is less than all others
pub ascending_above : (x : ℕ) (xs : List ℕ) → T (ascending (x ∷ xs)) → (y : ℕ) → T (has y xs) → x < y
unfolding ascending has
ascending_above x [] t y h = absurd h
ascending_above x (z ∷ zs) t y h =
    let first : x < z = ltb→lt _ _ (and_l (ltb x z) _ t) in
    ⊎_elim
    (λ e. rw e first)
    (λ r. lt_trans first (ascending_above z zs (and_r (ltb x z) (ascending (z ∷ zs)) t) y r))
    (of_cons _ _ zs h)

pub ascending_cons : (x : ℕ) (xs : List ℕ) → ((y : ℕ) → T (has y xs) → x < y) → T (ascending xs) → T (ascending (x ∷ xs))
unfolding ascending
ascending_cons x [] f t = tt
ascending_cons x (y ∷ ys) f t = and_i (ltb x y) _ (lt→ltb _ _ (f y (has_head _ _))) t

pub keep_from_ascending : (p : ℕ → Bool) (k m : ℕ) → T (ascending (keep p (from k m)))
unfolding from keep ascending
keep_from_ascending p k zero = tt
keep_from_ascending p k (suc m) = go (p k) (keep_from_ascending p (suc k) m)
  where
    go : (b : Bool) → T (ascending (keep p (from (suc k) m)))
        → T (ascending (if b then k ∷ keep p (from (suc k) m) else keep p (from (suc k) m)))
    go true t =
        ascending_cons _ (keep p (from (suc k) m)) (λ y h. let i = of_from _ m _ (of_keep _ _ _ h).0 in i.0) t
    go false t = t

pub keep_ascending : (p : ℕ → Bool) (n : ℕ) → T (ascending (keep p (up_to n)))
unfolding up_to
keep_ascending p n = keep_from_ascending _ _ _

member_keep : (l : List ℕ) (k m : ℕ) → T (ascending l) → ((x : ℕ) → T (has x l) → (k ≤ x) × (x < k + m))
    → keep (λ x. has x l) (from k m) ≡ l
unfolding from has keep
member_keep [] k zero t f = refl
member_keep (y ∷ ys) k zero t f = let b = f y (has_head y ys) in absurd (omega arith)
member_keep [] k (suc m) t f = keep_none (λ x. false) (from (suc k) m) (λ x h b. b)
member_keep (y ∷ ys) k (suc m) t f =
    go (eq_or k y) (λ g. member_keep ys _ _ (ascending_tail _ _ t) g) (λ g. member_keep (y ∷ ys) (suc k) m t g)
  where
    up : (x : ℕ) → T (has x ys) → y < x
    up = ascending_above _ ys t

    rest : List ℕ
    rest = keep (λ x. has x (y ∷ ys)) (from (suc k) m)

    front : k ≡ y → T (has k (y ∷ ys))
    front e = subst (λ z. T (has z (y ∷ ys))) (sym e) (has_head y ys)

    above : (k ≡ y → ⊥) → (x : ℕ) → T (has x (y ∷ ys)) → (suc k ≤ x) × (x < suc k + m)
    above d x h =
        let b = f y (has_head y ys) in
        let c = f x h in
        ⊎_elim (λ e. omega arith) (λ r. let u = up x r in omega arith) (of_cons _ _ ys h)

    go : (k ≡ y) ⊎ (k ≡ y → ⊥)
        → (((x : ℕ) → T (has x ys) → (suc k ≤ x) × (x < suc k + m)) → keep (λ x. has x ys) (from (suc k) m) ≡ ys)
        → (((x : ℕ) → T (has x (y ∷ ys)) → (suc k ≤ x) × (x < suc k + m)) → rest ≡ y ∷ ys)
        → (if has k (y ∷ ys) then k ∷ rest else rest) ≡ y ∷ ys
    go (inl e) one two =
        ap (λ (b : Bool). if b then k ∷ rest else rest) (T_true (has k (y ∷ ys)) (front e))
        ∙ ap (λ (z : ℕ). z ∷ rest) e
        ∙ ap (λ (l : List ℕ). y ∷ l) (
        keep_same _ _ (from (suc k) m)
        (λ x h t. other x (of_from _ m _ h).0 (of_cons _ _ ys t)) (λ x h t. has_tail x _ ys t)
        ∙ one (λ x r. let c = f x (has_tail x _ ys r) in let u = up x r in omega arith)
        )
      where
        other : (x : ℕ) → suc k ≤ x → (x ≡ y) ⊎ T (has x ys) → T (has x ys)
        other x h (inl q) = absurd (omega arith)
        other x h (inr r) = r
    go (inr d) one two =
        (rw (no_false (has k (y ∷ ys)) (λ t. let b = above d k t in absurd (omega arith))))
        ∙ two (above d)

pub ascending_keep : (l : List ℕ) (n : ℕ) → T (ascending l) → ((x : ℕ) → T (has x l) → x < n) → keep (λ x. has x l) (up_to n) ≡ l
unfolding up_to
ascending_keep l n t f = member_keep _ _ _ t (λ x h. (zero-le, let b = f x h in omega arith))

-- what a test keeps of an ascending list ascends
pub keep_of_ascending : (p : ℕ → Bool) (l : List ℕ) → T (ascending l) → T (ascending (keep p l))
unfolding keep ascending
keep_of_ascending p [] t = tt
keep_of_ascending p (x ∷ l) t = go (p x) (keep_of_ascending p l (ascending_tail x l t))
  where
    go : (b : Bool) → T (ascending (keep p l)) → T (ascending (if b then x ∷ keep p l else keep p l))
    go true s = ascending_cons _ (keep p l) (λ y m. ascending_above _ l t _ (of_keep _ _ _ m).0) s
    go false s = s

-- ---- where a member stands

pub get_d_has : (l : List ℕ) (i : ℕ) → i < length l → T (has (get_or l i 0) l)
get_d_has [] i h = absurd (omega arith)
get_d_has (x ∷ l) zero h = has_head _ _
get_d_has (x ∷ l) (suc i) h = has_tail _ _ _ (get_d_has l i (le_of_suc-le-suc h))

-- before a member of an ascending list stand as many entries as are smaller
pub standing : (l : List ℕ) (v : ℕ) → T (ascending l) → T (has v l)
    → (length (keep (λ u. ltb u v) l) < length l) × (get_or l (length (keep (λ u. ltb u v) l)) 0 ≡ v)
unfolding keep
standing [] v t h = absurd (none_in _ h)
standing (x ∷ l) v t h = go (of_cons _ _ _ h) (λ r. standing l _ (ascending_tail _ _ t) r)
  where
    go : (v ≡ x) ⊎ T (has v l)
        → (T (has v l) → (length (keep (λ u. ltb u v) l) < length l) × (get_or l (length (keep (λ u. ltb u v) l)) 0 ≡ v))
        → (length (if ltb x v then x ∷ keep (λ u. ltb u v) l else keep (λ u. ltb u v) l) < suc (length l))
        × (get_or (x ∷ l) (length (if ltb x v then x ∷ keep (λ u. ltb u v) l else keep (λ u. ltb u v) l)) 0 ≡ v)
    go (inl e) rec =
        let none : keep (λ u. ltb u v) l ≡ [] =
        keep_none _ l (λ y m s. let a = ascending_above _ _ t y m in let b = ltb→lt y v s in omega arith) in
        let f : ltb x v ≡ false = no_false _ (λ s. let b = ltb→lt _ v s in omega arith) in
        rw (f, none) (suc-le-suc zero-le, sym e)
    go (inr r) rec = let k = rec r in rw (T_true (ltb x v) (lt→ltb x v (ascending_above x l t v r))) (suc-le-suc k.0, k.1)

-- in an ascending list, the entries before x are less than x
pub ascending_front : (k : List ℕ) (x : ℕ) (l : List ℕ) → T (ascending (k ++ x ∷ l)) → (y : ℕ) → T (has y k) → y < x
ascending_front [] x l t y h = absurd (none_in _ h)
ascending_front (z ∷ k) x l t y h = ⊎_elim
    (λ e. rw e (ascending_above _ _ t _ (has_later _ k _ (has_head _ l))))
    (ascending_front k x l (ascending_tail _ _ t) y)
    (of_cons _ _ _ h)
