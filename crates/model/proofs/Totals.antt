-- All nodes together have two neighbours for each link.
-- Assumes nothing.
use mathlib.Core.Path.{◌≡◌, refl, sym, ap, ap₂, ◌∙◌, subst, fun_ext}
use mathlib.Core.Logic.{◌⊎◌, inl, inr, ⊎_elim}
use mathlib.Core.Bool.{Bool, true, false, ◌&&◌, ◌||◌, and_comm, or_comm, or-false}
use mathlib.Core.List.{List, [], ◌∷◌}
use Prim.Native.Nat.{ℕ, zero, suc, ◌+◌, ◌*◌, ◌≤◌, ◌<◌, zero-le}
use native.Mathlib.Nat.{zero-add}
use native.Mathlib.Omega.{arith}
use borrow.Author.Tests.{eqb-true, eqb-false}
use lib.Dec.{T, eqb, eqb→eq}
use lib.ListN.{length, length-append}
use Rattle.model.specs.Basics.{from, up_to, keep, gather}
use Rattle.std.specs.Prelude.{if◌then◌else◌}
use Rattle.model.specs.Reading.{named, graph_of}
use Rattle.model.proofs.Tests.{and_l, and_r, or_e, false_no, or_turned}
use Rattle.model.proofs.Links.{Fresh, AllFresh}
use Rattle.model.proofs.SurveyLists.{total}

-- ---- sums over a list

bit : Bool → ℕ
bit true = 1
bit false = 0

sum_over : (ℕ → ℕ) → List ℕ → ℕ
sum_over f [] = 0
sum_over f (x ∷ xs) = f x + sum_over f xs

gather_sum : (f : ℕ → List ℕ) (l : List ℕ) → length (gather f l) ≡ sum_over (λ x. length (f x)) l
unfolding gather sum_over
gather_sum f [] = refl
gather_sum f (x ∷ l) = length-append (f x) _ ∙ rw (gather_sum f l)

keep_sum : (p : ℕ → Bool) (l : List ℕ) → length (keep p l) ≡ sum_over (λ x. bit (p x)) l
unfolding keep sum_over bit
keep_sum p [] = refl
keep_sum p (x ∷ l) = at (p x) (keep_sum p l)
  where
    at : (b : Bool) → length (keep p l) ≡ sum_over (λ x. bit (p x)) l
        → length (if b then x ∷ keep p l else keep p l) ≡ bit b + sum_over (λ x. bit (p x)) l
    at true e = omega (arith, e)
    at false e = omega (arith, e)

sum_same : (f g : ℕ → ℕ) (l : List ℕ) → ((x : ℕ) → f x ≡ g x) → sum_over f l ≡ sum_over g l
sum_same f g l e = rw (fun_ext e)

sum_add : (f g : ℕ → ℕ) (l : List ℕ) → sum_over (λ x. f x + g x) l ≡ sum_over f l + sum_over g l
unfolding sum_over
sum_add f g [] = refl
sum_add f g (x ∷ l) = omega (arith, sum_add f g l)

sum_zero : (l : List ℕ) → sum_over (λ x. 0) l ≡ 0
unfolding sum_over
sum_zero [] = refl
sum_zero (x ∷ l) = omega (arith, sum_zero l)

-- a number stands once among k, .., k + m - 1, or not at all
once_from : (a k m : ℕ)
    → ((a < k) → sum_over (λ x. bit (eqb a x)) (from k m) ≡ 0) × (k ≤ a → a < k + m → sum_over (λ x. bit (eqb a x)) (from k m) ≡ 1)
unfolding sum_over from bit
once_from a k zero = (λ h. refl, λ h l. absurd (omega arith))
once_from a k (suc m) = at (once_from a (suc k) m) (eqb a k) refl
  where
    R : ℕ
    R = sum_over (λ x. bit (eqb a x)) (from (suc k) m)

    at : ((a < suc k) → R ≡ 0) × (suc k ≤ a → a < suc k + m → R ≡ 1) → (b : Bool) → eqb a k ≡ b
        → ((a < k) → bit b + R ≡ 0) × (k ≤ a → a < k + suc m → bit b + R ≡ 1)
    at i true e = (λ h. let q = eqb-true _ k e in absurd (omega arith), λ h l. let q = eqb-true a k e in omega (arith, i.0 (omega arith)))
    at i false e =
        (λ h. omega (arith, i.0 (omega arith)), λ h l. let q = eqb-false _ k e in omega (arith, i.1 (omega arith) (omega arith)))

once : (a n : ℕ) → a < n → sum_over (λ x. bit (eqb a x)) (up_to n) ≡ 1
unfolding up_to
once a n h = (once_from _ _ _).1 zero-le (omega arith)

-- ---- how many ordered pairs of nodes below n are linked

count : (ℕ → ℕ → Bool) → ℕ → ℕ
count E n = sum_over (λ u. sum_over (λ v. bit (E u v)) (up_to n)) (up_to n)

count_same : (E F : ℕ → ℕ → Bool) (n : ℕ) → ((u v : ℕ) → E u v ≡ F u v) → count E n ≡ count F n
unfolding count
count_same E F n e = sum_same _ _ _ (λ u. sum_same _ _ _ (λ v. ap bit (e u v)))

count_add : (E F H : ℕ → ℕ → Bool) (n : ℕ) → ((u v : ℕ) → bit (H u v) ≡ bit (E u v) + bit (F u v)) → count H n ≡ count E n + count F n
unfolding count
count_add E F H n e =
    sum_same _ _ _ (λ u. sum_same _ _ _ (λ v. e u v) ∙ sum_add _ _ _)
    ∙ sum_add _ _ _

count_none : (n : ℕ) → count (λ u v. false) n ≡ 0
unfolding count bit
count_none n = sum_same _ _ _ (λ u. sum_zero _) ∙ sum_zero _

-- one pair counts once
count_one : (a b n : ℕ) → a < n → b < n → count (λ u v. eqb a u && eqb b v) n ≡ 1
unfolding count bit
count_one a b n ha hb = sum_same _ _ _ (λ u. row u (eqb a u)) ∙ once _ _ ha
  where
    row : (u : ℕ) (t : Bool) → sum_over (λ v. bit (t && eqb b v)) (up_to n) ≡ bit t
    row u true = once _ _ hb
    row u false = sum_zero _

-- ---- the links named

pub named_sym : (ls : List (ℕ × ℕ)) (a b : ℕ) → named ls a b ≡ named ls b a
unfolding named
named_sym [] a b = refl
named_sym (l ∷ ls) a b =
    ap₂ (λ (s t : Bool). s || t) (or_comm (eqb l.0 a && eqb l.1 b) _) (named_sym ls a b)

-- one test of two equations
pub both_equal : (x y u v : ℕ) → T (eqb x u && eqb y v) → (x ≡ u) × (y ≡ v)
both_equal x y u v t = (eqb→eq x u (and_l (eqb x u) (eqb y v) t), eqb→eq y v (and_r (eqb x u) (eqb y v) t))

-- a pair that is named is the first link, this way or the other, or is named by a later one
pub named_cases : (l : ℕ × ℕ) (ls : List (ℕ × ℕ)) (a b : ℕ) → T (named (l ∷ ls) a b)
    → ((l.0 ≡ a) × (l.1 ≡ b)) ⊎ (((l.0 ≡ b) × (l.1 ≡ a)) ⊎ T (named ls a b))
unfolding named
named_cases l ls a b t =
    let X = eqb l.0 a && eqb l.1 b in
    let Y = eqb l.0 b && eqb l.1 a in
    ⊎_elim
    (λ s. ⊎_elim (λ x. inl (both_equal l.0 l.1 a b x)) (λ y. inr (inl (both_equal l.0 l.1 b a y))) (or_e X Y s))
    (λ s. inr (inr s))
    (or_e (X || Y) (named ls a b) t)

either : (x y : Bool) → (T x → T y → ⊥) → bit (x || y) ≡ bit x + bit y
unfolding bit
either true true f = absurd (f tt tt)
either true false f = refl
either false y f = sym (zero-add _)

module _ (n : ℕ) (done : List (ℕ × ℕ)) (l : ℕ × ℕ) (f : Fresh n (named done) l.0 l.1) where
  there : ℕ → ℕ → Bool
  there u v = eqb l.0 u && eqb l.1 v

  back : ℕ → ℕ → Bool
  back u v = eqb l.0 v && eqb l.1 u

  ends : (u v : ℕ) → T (there u v) → (l.0 ≡ u) × (l.1 ≡ v)
  unfolding there
  ends = both_equal l.0 l.1

  no_there : (u v : ℕ) → T (there u v) → T (named done u v) → ⊥
  no_there u v t s =
      let e = ends _ _ t in false_no _ f.new (subst T (ap₂ (named done) (sym e.0) (sym e.1)) s)

  no_back : (u v : ℕ) → T (back u v) → T (named done u v) → ⊥
  unfolding there back
  no_back u v t s = no_there _ _ t (subst T (named_sym _ _ _) s)

  not_both : (u v : ℕ) → T (there u v) → T (back u v) → ⊥
  unfolding there back
  not_both u v s t = let e = ends _ _ s in let g = ends _ _ t in f.different (e.0 ∙ sym g.1)

  -- a new link adds two pairs
  count_more : count (named (l ∷ done)) n ≡ count (named done) n + 2
  unfolding named there back
  count_more =
      let one = count_add _ _ _ n (λ u v.
      either (there u v || back u v) (named done u v)
      (λ s t. ⊎_elim (λ x. no_there u v x t) (λ x. no_back u v x t) (or_e (there u v) (back u v) s))) in
      let two = count_add there back (λ u v. there u v || back u v) n (λ u v. either (there u v) (back u v) (not_both u v)) in
      let three = count_one l.0 l.1 n f.below_a f.below_b in
      let four : count back n ≡ 1 =
      count_same back (λ u v. eqb l.1 u && eqb l.0 v) n (λ u v. and_comm (eqb l.0 v) (eqb l.1 u))
      ∙ count_one l.1 l.0 n f.below_b f.below_a in
      omega (arith, one, two, three, four)

count_all : (n : ℕ) (ls done : List (ℕ × ℕ)) → AllFresh n done ls
    → count (λ u v. named ls u v || named done u v) n ≡ count (named done) n + 2 * length ls
unfolding named
count_all n [] done f = omega arith
count_all n (l ∷ ls) done f =
    count_same _ _ _ (λ u v.
    sym (or_turned _ ((eqb l.0 u && eqb l.1 v) || (eqb l.0 v && eqb l.1 u)) (named done u v)))
    ∙ omega (arith, count_all n ls (l ∷ done) f.1, count_more n done l f.0)

-- links that are all new give two neighbours each
pub links_total : (n : ℕ) (ls : List (ℕ × ℕ)) → AllFresh n [] ls → total (graph_of n ls) n ≡ 2 * length ls
unfolding total graph_of count named
links_total n ls f =
    gather_sum _ _
    ∙ sum_same _ _ _ (λ u. keep_sum _ _)
    ∙ count_same _ _ _ (λ u v. sym (or-false _))
    ∙ count_all _ ls [] f
    ∙ omega (arith, count_none n)
