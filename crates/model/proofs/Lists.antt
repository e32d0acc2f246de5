-- Laws of the small functions on lists of specs/Basics.antt.
-- Assumes nothing.
use mathlib.Core.Path.{◌≡◌, refl, sym, ap, ap₂, ◌∙◌, subst}
use mathlib.Core.Logic.{◌⊎◌, inl, inr, ⊎_elim}
use mathlib.Core.Bool.{Bool, true, false, not, ◌&&◌, ◌||◌, or_assoc}
use mathlib.Core.List.{List, [], ◌∷◌, ◌++◌, map, append_assoc, append-nil}
use Prim.Native.Nat.{ℕ, zero, suc, ◌+◌, ◌-◌, ◌≤◌, ◌<◌, suc-le-suc, zero-le}
use native.Mathlib.Nat.{le_step, le_refl, add-zero, add-suc, suc-add, zero-add}
use native.Mathlib.Omega.{arith}
use lib.Dec.{T, eqb, eqb→eq, eqb_refl}
use lib.ListN.{length}
use Rattle.model.specs.Basics.{from, up_to, has, any, all, keep, first_of, gather, same}
use Rattle.std.specs.Prelude.{if◌then◌else◌}
use Rattle.model.proofs.Tests.{and_l, and_r, and_i, or_l, or_r, or_e, eq_or}

-- ---- membership

pub has_head : (x : ℕ) (ys : List ℕ) → T (has x (x ∷ ys))
unfolding has
has_head x ys = or_l (eqb x x) _ (eqb_refl x)

pub has_tail : (x y : ℕ) (ys : List ℕ) → T (has x ys) → T (has x (y ∷ ys))
unfolding has
has_tail x y ys t = or_r (eqb x y) _ t

pub of_cons : (x y : ℕ) (ys : List ℕ) → T (has x (y ∷ ys)) → (x ≡ y) ⊎ T (has x ys)
unfolding has
of_cons x y ys t = ⊎_elim (λ e. inl (eqb→eq _ _ e)) inr (or_e (eqb x y) _ t)

pub of_single : (x y : ℕ) → T (has x (y ∷ [])) → x ≡ y
unfolding has
of_single x y t = ⊎_elim (λ e. e) (λ r. absurd r) (of_cons _ _ [] t)

-- ---- any, all, keep

pub any_of : (p : ℕ → Bool) (l : List ℕ) (x : ℕ) → T (has x l) → T (p x) → T (any p l)
unfolding has any
any_of p [] x h t = h
any_of p (y ∷ ys) x h t = ⊎_elim
    (λ e. or_l (p y) _ (rw e at t))
    (λ r. or_r (p y) _ (any_of p ys x r t))
    (of_cons _ _ ys h)

pub of_any : (p : ℕ → Bool) (l : List ℕ) → T (any p l) → (x : ℕ) × T (has x l) × T (p x)
unfolding any
of_any p [] t = absurd t
of_any p (y ∷ ys) t = ⊎_elim
    (λ s. (y, has_head _ _, s))
    (λ r. let h = of_any p ys r in (h.0, has_tail _ _ _ h.1, h.2))
    (or_e (p y) _ t)

pub of_all : (p : ℕ → Bool) (l : List ℕ) → T (all p l) → (x : ℕ) → T (has x l) → T (p x)
unfolding all has
of_all p [] t x h = absurd h
of_all p (y ∷ ys) t x h = ⊎_elim
    (λ e. rw e (and_l (p y) _ t))
    (of_all p ys (and_r (p y) _ t) _)
    (of_cons _ _ ys h)

pub all_of : (p : ℕ → Bool) (l : List ℕ) → ((x : ℕ) → T (has x l) → T (p x)) → T (all p l)
unfolding all
all_of p [] f = tt
all_of p (y ∷ ys) f = and_i (p y) _ (f y (has_head _ _)) (all_of p ys (λ x h. f x (has_tail _ _ _ h)))

pub has_keep : (p : ℕ → Bool) (l : List ℕ) (x : ℕ) → T (has x l) → T (p x) → T (has x (keep p l))
unfolding has keep
has_keep p [] x h t = h
has_keep p (y ∷ ys) x h t = go (p y) refl (of_cons _ _ ys h) (λ r. has_keep p ys x r t)
  where
    go : (b : Bool) → p y ≡ b → (x ≡ y) ⊎ T (has x ys) → (T (has x ys) → T (has x (keep p ys)))
        → T (has x (if b then y ∷ keep p ys else keep p ys))
    go true e (inl q) rec = rw (← q) (has_head x (keep p ys))
    go true e (inr r) rec = has_tail x _ (keep p ys) (rec r)
    go false e (inl q) rec = absurd (subst T e (rw q at t))
    go false e (inr r) rec = rec r

pub of_keep : (p : ℕ → Bool) (l : List ℕ) (x : ℕ) → T (has x (keep p l)) → T (has x l) × T (p x)
unfolding has keep
of_keep p [] x h = absurd h
of_keep p (y ∷ ys) x h = go (p y) refl h (λ r. of_keep p ys x r)
  where
    go : (b : Bool) → p y ≡ b → T (has x (if b then y ∷ keep p ys else keep p ys))
        → (T (has x (keep p ys)) → T (has x ys) × T (p x)) → T (has x (y ∷ ys)) × T (p x)
    go true e h rec = ⊎_elim
        (λ q. (rw (← q) (has_head x ys), rw q (subst T (sym e) tt)))
        (λ r. let i = rec r in (has_tail x _ ys i.0, i.1))
        (of_cons _ _ (keep p ys) h)
    go false e h rec = let i = rec h in (has_tail x _ ys i.0, i.1)

-- ---- the numbers below n

pub has_from : (k m x : ℕ) → k ≤ x → x < k + m → T (has x (from k m))
unfolding from
has_from k zero x lo hi = absurd (omega arith)
has_from k (suc m) x lo hi = ⊎_elim
    (λ e. rw (← e) (has_head _ _))
    (λ d. has_tail _ _ _ (has_from (suc k) m _ (omega arith) (omega arith)))
    (eq_or x k)

pub of_from : (k m x : ℕ) → T (has x (from k m)) → (k ≤ x) × (x < k + m)
unfolding from has
of_from k zero x h = absurd h
of_from k (suc m) x h =
    ⊎_elim (λ e. omega arith) (λ r. let i = of_from (suc k) m x r in omega arith) (of_cons x k (from (suc k) m) h)

pub has_up_to : (n x : ℕ) → x < n → T (has x (up_to n))
unfolding up_to
has_up_to n x h = has_from 0 n x zero-le (omega arith)

pub of_up_to : (n x : ℕ) → T (has x (up_to n)) → x < n
unfolding up_to
of_up_to n x h = let i = of_from 0 n x h in omega arith

-- ---- the first number that passes a test

-- r is the first of k, .., k + m - 1 that passes; or d, where none does
pub data First (p : ℕ → Bool) (d k m r : ℕ) : Type 0 where
  found : k ≤ r → r < k + m → T (p r) → ((y : ℕ) → k ≤ y → y < r → T (p y) → ⊥) → First p d k m r
  nothing : r ≡ d → ((y : ℕ) → k ≤ y → y < k + m → T (p y) → ⊥) → First p d k m r

pub first_from : (p : ℕ → Bool) (d k m : ℕ) → First p d k m (first_of p d (from k m))
unfolding from first_of
first_from p d k zero = nothing refl (λ y lo hi t. omega arith)
first_from p d k (suc m) = go (p k) refl (first_from p d (suc k) m)
  where
    step : (f : T (p k) → ⊥) (y : ℕ) → k ≤ y → T (p y) → suc k ≤ y
    step f y lo t = let ne : k ≡ y → ⊥ = λ e. f (rw e t) in omega arith

    rest : {r : ℕ} → (T (p k) → ⊥) → First p d (suc k) m r → First p d k (suc m) r
    rest f (found lo hi t least) = found (omega arith) (omega arith) t (λ y l h s. least y (step f y l s) h s)
    rest f (nothing e least) = nothing e (λ y l h s. least y (step f y l s) (omega arith) s)

    go : (b : Bool) → p k ≡ b → First p d (suc k) m (first_of p d (from (suc k) m))
        → First p d k (suc m) (if b then k else first_of p d (from (suc k) m))
    go true e r = found (le_refl _) (omega arith) (subst T (sym e) tt) (λ y lo hi t. omega arith)
    go false e r = rest (λ t. subst T e t) r

pub first_below : (p : ℕ → Bool) (d n : ℕ) → First p d 0 n (first_of p d (up_to n))
unfolding up_to
first_below p d n = first_from p d 0 n

-- it is at most d, where d is not below n
pub first_most : (p : ℕ → Bool) (d n : ℕ) → n ≤ d → first_of p d (up_to n) ≤ d
first_most p d n h = at (first_below p d n)
  where
    at : {r : ℕ} → First p d 0 n r → r ≤ d
    at (found lo hi t least) = omega arith
    at (nothing e least) = omega arith

-- ---- counting what is kept

-- where p implies q on the list, q keeps no fewer
pub keep_mono : (p q : ℕ → Bool) (l : List ℕ) → ((x : ℕ) → T (has x l) → T (p x) → T (q x)) → length (keep p l) ≤ length (keep q l)
unfolding keep
keep_mono p q [] f = zero-le
keep_mono p q (y ∷ ys) f = go (p y) refl (q y) refl (keep_mono p q ys (λ x h. f x (has_tail _ _ _ h)))
  where
    go : (b : Bool) → p y ≡ b → (c : Bool) → q y ≡ c → length (keep p ys) ≤ length (keep q ys)
        → length (if b then y ∷ keep p ys else keep p ys) ≤ length (if c then y ∷ keep q ys else keep q ys)
    go true e true g h = suc-le-suc h
    go true e false g h = absurd (subst T g (f y (has_head _ _) (subst T (sym e) tt)))
    go false e true g h = le_step h
    go false e false g h = h

-- and either it keeps more, or q implies p too
pub keep_grows : (p q : ℕ → Bool) (l : List ℕ) → ((x : ℕ) → T (has x l) → T (p x) → T (q x))
    → ((x : ℕ) → T (has x l) → T (q x) → T (p x)) ⊎ (length (keep p l) < length (keep q l))
unfolding keep has
keep_grows p q [] f = inl (λ x h t. absurd h)
keep_grows p q (y ∷ ys) f =
    go (p y) refl (q y) refl (keep_mono p q ys (λ x h. f x (has_tail x _ ys h))) (keep_grows p q ys (λ x h. f x (has_tail x _ ys h)))
  where
    both : (T (q y) → T (p y)) → ((x : ℕ) → T (has x ys) → T (q x) → T (p x)) → (x : ℕ) → T (has x (y ∷ ys)) → T (q x) → T (p x)
    both h f x m t = ⊎_elim
        (λ e. rw e (h (rw e at t)))
        (λ r. f x r t)
        (of_cons _ _ ys m)

    go : (b : Bool) → p y ≡ b → (c : Bool) → q y ≡ c → length (keep p ys) ≤ length (keep q ys)
        → ((x : ℕ) → T (has x ys) → T (q x) → T (p x)) ⊎ (length (keep p ys) < length (keep q ys))
        → ((x : ℕ) → T (has x (y ∷ ys)) → T (q x) → T (p x))
        ⊎ (length (if b then y ∷ keep p ys else keep p ys) < length (if c then y ∷ keep q ys else keep q ys))
    go true e true g le (inl r) = inl (both (λ t. subst T (sym e) tt) r)
    go true e true g le (inr r) = inr (suc-le-suc r)
    go true e false g le r = absurd (subst T g (f y (has_head y ys) (subst T (sym e) tt)))
    go false e true g le r = inr (suc-le-suc le)
    go false e false g le (inl r) = inl (both (λ t. absurd (subst T g t)) r)
    go false e false g le (inr r) = inr r

pub keep_length : (p : ℕ → Bool) (l : List ℕ) → length (keep p l) ≤ length l
unfolding keep
keep_length p [] = zero-le
keep_length p (y ∷ ys) = go (p y) (keep_length p ys)
  where
    go : (b : Bool) → length (keep p ys) ≤ length ys → length (if b then y ∷ keep p ys else keep p ys) ≤ suc (length ys)
    go true h = suc-le-suc h
    go false h = le_step h

pub length_from : (k m : ℕ) → length (from k m) ≡ m
unfolding from
length_from k zero = refl
length_from k (suc m) = ap suc (length_from (suc k) m)

pub length_up_to : (n : ℕ) → length (up_to n) ≡ n
unfolding up_to
length_up_to n = length_from 0 n

-- a list that has an element is not empty
pub length_pos : (x : ℕ) (l : List ℕ) → T (has x l) → 0 < length l
unfolding has
length_pos x [] h = absurd h
length_pos x (y ∷ ys) h = suc-le-suc zero-le

-- what a test keeps and what it drops are together as many as the list has
pub keep_split : (p : ℕ → Bool) (l : List ℕ) → length (keep p l) + length (keep (λ x. not (p x)) l) ≡ length l
unfolding keep
keep_split p [] = refl
keep_split p (y ∷ ys) = go (p y) (keep_split p ys)
  where
    go : (b : Bool) → length (keep p ys) + length (keep (λ x. not (p x)) ys) ≡ length ys
        → length (if b then y ∷ keep p ys else keep p ys)
        + length (if not b then y ∷ keep (λ x. not (p x)) ys else keep (λ x. not (p x)) ys) ≡ suc (length ys)
    go true h = omega arith
    go false h = omega arith

-- a number that passes, and before which none passes, is the one found
pub first_is : (p : ℕ → Bool) (d n r : ℕ) → r < n → T (p r) → ((y : ℕ) → y < r → T (p y) → ⊥) → first_of p d (up_to n) ≡ r
first_is p d n r b t f = at (first_below p d n)
  where
    at : {x : ℕ} → First p d 0 n x → x ≡ r
    at {x} (found lo hi s least) =
        let l : r < x → ⊥ = λ h. least r zero-le h t in
        let g : x < r → ⊥ = λ h. f x h s in
        omega arith
    at (nothing e none) = absurd (none r zero-le (omega arith) t)

-- in any list: an element that passes, or d where none does
pub first_in : (p : ℕ → Bool) (d : ℕ) (l : List ℕ)
    → (T (has (first_of p d l) l) × T (p (first_of p d l))) ⊎ ((first_of p d l ≡ d) × ((y : ℕ) → T (has y l) → T (p y) → ⊥))
unfolding first_of has
first_in p d [] = inr (refl, λ y h t. h)
first_in p d (x ∷ xs) = go (p x) refl (first_in p d xs)
  where
    r : ℕ
    r = first_of p d xs

    go : (b : Bool) → p x ≡ b → (T (has r xs) × T (p r)) ⊎ ((r ≡ d) × ((y : ℕ) → T (has y xs) → T (p y) → ⊥))
        → (T (has (if b then x else r) (x ∷ xs)) × T (p (if b then x else r)))
        ⊎ (((if b then x else r) ≡ d) × ((y : ℕ) → T (has y (x ∷ xs)) → T (p y) → ⊥))
    go true e rest = inl (has_head x xs, subst T (sym e) tt)
    go false e (inl i) = inl (has_tail r _ xs i.0, i.1)
    go false e (inr i) = inr (
      i.0,
      λ y h t.
          ⊎_elim (λ q. subst T e (rw q at t)) (λ m. i.1 y m t) (of_cons _ _ xs h),
    )

-- ---- one list after another

pub keep_append : (p : ℕ → Bool) (k l : List ℕ) → keep p (k ++ l) ≡ keep p k ++ keep p l
unfolding keep
keep_append p [] l = refl
keep_append p (x ∷ k) l = go (p x) (keep_append p k _)
  where
    go : (b : Bool) → keep p (k ++ l) ≡ keep p k ++ keep p l
        → (if b then x ∷ keep p (k ++ l) else keep p (k ++ l)) ≡ (if b then x ∷ keep p k else keep p k) ++ keep p l
    go true e = ap (λ (r : List ℕ). x ∷ r) e
    go false e = e

pub any_append : (p : ℕ → Bool) (k l : List ℕ) → any p (k ++ l) ≡ (any p k || any p l)
unfolding any
any_append p [] l = refl
any_append p (x ∷ k) l = rw (any_append p k l) (sym (or_assoc (p x) _ _))

pub gather_append : {A B : Type 0} (f : A → List B) (k l : List A) → gather f (k ++ l) ≡ gather f k ++ gather f l
unfolding gather
gather_append f [] l = refl
gather_append f (x ∷ k) l = rw (gather_append f k l) (sym (append_assoc (f x) _ _))

pub gather_same : {B : Type 0} (f g : ℕ → List B) (l : List ℕ) → ((x : ℕ) → T (has x l) → f x ≡ g x) → gather f l ≡ gather g l
unfolding gather
gather_same f g [] e = refl
gather_same {B = B} f g (x ∷ l) e = ap₂ (λ (r s : List B). r ++ s) (e x (has_head _ _)) (gather_same f g l (λ y m. e y (has_tail _ _ _ m)))

-- ---- the numbers below n, split at a place

pub from_add : (k m j : ℕ) → from k (m + j) ≡ from k m ++ from (k + m) j
unfolding from
from_add k zero j = ap₂ (λ (a b : ℕ). from a b) (sym (add-zero k)) (zero-add j)
from_add k (suc m) j =
    ap (from k) (suc-add m _)
    ∙ rw (from_add (suc k) m j ∙ ap (λ (x : ℕ). from (suc k) m ++ from x j) (suc-add _ _ ∙ sym (add-suc _ _)))

pub up_to_add : (u k n : ℕ) → u + k ≡ n → up_to n ≡ up_to u ++ from u k
unfolding up_to
up_to_add u k n e = ap (from 0) (sym e) ∙ from_add _ _ _ ∙ rw (zero-add _)

pub from_split : (v k n : ℕ) → v + suc k ≡ n → up_to n ≡ up_to v ++ v ∷ from (suc v) k
unfolding from
from_split v k n e = up_to_add _ _ _ e

-- the numbers below n + 1 are those below n, and n
pub up_to_suc : (n : ℕ) → up_to (suc n) ≡ up_to n ++ n ∷ []
unfolding from
up_to_suc n = up_to_add _ 1 (suc n) (omega arith)

pub gather_suc : {B : Type 0} (f : ℕ → List B) (n : ℕ) → gather f (up_to (suc n)) ≡ gather f (up_to n) ++ f n
unfolding gather
gather_suc {B} f n =
    ap (gather f) (up_to_suc _)
    ∙ gather_append f (up_to n) _
    ∙ rw (append-nil _)

-- ---- two tests on one list

pub keep_same : (p q : ℕ → Bool) (l : List ℕ) → ((x : ℕ) → T (has x l) → T (p x) → T (q x)) → ((x : ℕ) → T (has x l) → T (q x) → T (p x))
    → keep p l ≡ keep q l
unfolding keep
keep_same p q [] f g = refl
keep_same p q (y ∷ ys) f g = go (p y) refl (q y) refl (keep_same p q ys (λ x h. f x (has_tail x y ys h)) (λ x h. g x (has_tail _ _ _ h)))
  where
    go : (b : Bool) → p y ≡ b → (c : Bool) → q y ≡ c → keep p ys ≡ keep q ys
        → (if b then y ∷ keep p ys else keep p ys) ≡ (if c then y ∷ keep q ys else keep q ys)
    go true e true h r = ap (λ (t : List ℕ). y ∷ t) r
    go true e false h r = absurd (subst T h (f y (has_head _ _) (subst T (sym e) tt)))
    go false e true h r = absurd (subst T e (g y (has_head _ _) (subst T (sym h) tt)))
    go false e false h r = r

-- keeping by one test, then by another, is keeping by both
pub keep_keep : (p q : ℕ → Bool) (l : List ℕ) → keep p (keep q l) ≡ keep (λ x. q x && p x) l
unfolding keep
keep_keep p q [] = refl
keep_keep p q (y ∷ ys) = go (q y) (p y) refl (keep_keep p q ys)
  where
    go : (b c : Bool) → p y ≡ c → keep p (keep q ys) ≡ keep (λ x. q x && p x) ys
        → keep p (if b then y ∷ keep q ys else keep q ys) ≡ (if b && c then y ∷ keep (λ x. q x && p x) ys else keep (λ x. q x && p x) ys)
    go true true e r = rw (e, r)
    go true false e r = rw e r
    go false c e r = r

pub keep_none : (p : ℕ → Bool) (l : List ℕ) → ((x : ℕ) → T (has x l) → T (p x) → ⊥) → keep p l ≡ []
unfolding keep
keep_none p [] f = refl
keep_none p (y ∷ ys) f = go (p y) refl (keep_none p ys (λ x h. f x (has_tail _ _ _ h)))
  where
    go : (b : Bool) → p y ≡ b → keep p ys ≡ [] → (if b then y ∷ keep p ys else keep p ys) ≡ []
    go true e r = absurd (f y (has_head _ _) (subst T (sym e) tt))
    go false e r = r

pub first_same : (p q : ℕ → Bool) (d : ℕ) (l : List ℕ) → ((x : ℕ) → T (has x l) → p x ≡ q x) → first_of p d l ≡ first_of q d l
unfolding first_of
first_same p q d [] f = refl
first_same p q d (y ∷ ys) f =
    ap₂ (λ (b : Bool) (r : ℕ). if b then y else r) (f y (has_head _ _)) (first_same p q d ys (λ x h. f x (has_tail _ _ _ h)))

-- ---- membership in two lists

pub has_append : (x : ℕ) (k l : List ℕ) → T (has x k) → T (has x (k ++ l))
unfolding has
has_append x [] l h = absurd h
has_append x (y ∷ k) l h = ⊎_elim
    (or_l (eqb x y) _)
    (λ r. or_r (eqb x y) _ (has_append x k l r))
    (or_e (eqb x y) _ h)

pub all_append : (p : ℕ → Bool) (k l : List ℕ) → T (all p k) → T (all p l) → T (all p (k ++ l))
unfolding all
all_append p [] l h m = m
all_append p (x ∷ k) l h m = and_i (p x) _ (and_l (p x) _ h) (all_append p k l (and_r (p x) (all p k) h) m)

pub none_in : (x : ℕ) → T (has x []) → ⊥
unfolding has
none_in x h = h

pub of_append : (x : ℕ) (k l : List ℕ) → T (has x (k ++ l)) → T (has x k) ⊎ T (has x l)
unfolding has
of_append x [] l h = inr h
of_append x (y ∷ k) l h = ⊎_elim
    (λ e. inl (or_l (eqb x y) _ e))
    (λ r. ⊎_elim (λ s. inl (or_r (eqb x y) _ s)) inr (of_append x k l r))
    (or_e (eqb x y) _ h)

-- ---- two lists that are the same

pub same_eq : (k l : List ℕ) → T (same k l) → k ≡ l
unfolding same
same_eq [] [] t = refl
same_eq [] (y ∷ l) t = absurd t
same_eq (x ∷ k) [] t = absurd t
same_eq (x ∷ k) (y ∷ l) t =
    ap₂ (λ (z : ℕ) (r : List ℕ). z ∷ r) (eqb→eq _ _ (and_l (eqb x y) _ t)) (same_eq k l (and_r (eqb x y) _ t))

pub same_refl : (l : List ℕ) → T (same l l)
unfolding same
same_refl [] = tt
same_refl (x ∷ l) = and_i (eqb x x) _ (eqb_refl x) (same_refl l)

-- ---- gathering twice

pub gather_gather : {A B C : Type 0} (f : B → List C) (g : A → List B) (l : List A) → gather f (gather g l) ≡ gather (λ x. gather f (g x)) l
unfolding gather
gather_gather f g [] = refl
gather_gather f g (x ∷ l) = gather_append f (g x) _ ∙ rw (gather_gather f g l)

pub gather_map : {A B C : Type 0} (f : B → List C) (g : A → B) (l : List A) → gather f (map g l) ≡ gather (λ x. f (g x)) l
unfolding gather
gather_map f g [] = refl
gather_map f g (x ∷ l) = rw (gather_map f g l)

pub has_later : (x : ℕ) (k l : List ℕ) → T (has x l) → T (has x (k ++ l))
has_later x [] l h = h
has_later x (y ∷ k) l h = has_tail _ _ _ (has_later x k l h)

-- a test that always passes keeps all
pub keep_all : (p : ℕ → Bool) (l : List ℕ) → ((x : ℕ) → T (has x l) → T (p x)) → keep p l ≡ l
unfolding keep
keep_all p [] f = refl
keep_all p (y ∷ ys) f = go (p y) refl (keep_all p ys (λ x h. f x (has_tail _ _ _ h)))
  where
    go : (b : Bool) → p y ≡ b → keep p ys ≡ ys → (if b then y ∷ keep p ys else keep p ys) ≡ y ∷ ys
    go true e r = ap (λ (t : List ℕ). y ∷ t) r
    go false e r = absurd (subst T e (f y (has_head _ _)))

-- where only numbers below n pass, the numbers from n on add nothing
pub keep_below : (p : ℕ → Bool) (n m : ℕ) → n ≤ m → ((x : ℕ) → T (p x) → x < n) → keep p (up_to m) ≡ keep p (up_to n)
keep_below p n m h f =
    let e : up_to m ≡ up_to n ++ from n (m - n) = up_to_add _ _ _ (omega arith) in
    ap (keep p) e ∙ keep_append _ _ _
    ∙ ap (λ (l : List ℕ). keep p (up_to n) ++ l) (keep_none _ _ (λ x k t. omega (arith, of_from n (m - n) x k, f x t)))
    ∙ append-nil _
