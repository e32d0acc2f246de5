-- Laws of tests.
-- Assumes nothing.
use mathlib.Core.Path.{◌≡◌, refl, sym, ap, subst, ◌∙◌}
use mathlib.Core.Logic.{◌⊎◌, inl, inr, ⊎_elim}
use mathlib.Core.Bool
use mathlib.Core.Bool.{Bool, true, false, not, ◌&&◌, ◌||◌, or_assoc, or_comm}
use Prim.Native.Nat.{ℕ, ◌+◌, ◌≤◌, ◌<◌}
use native.Mathlib.Omega.{arith}
use borrow.Author.Tests.{ltb-true, ltb-false, eqb-true, eqb-false, lt-ltb, le-ltb, lt-leb, le-leb}
use lib.Dec.{T, eqb, ltb, leb, eqb_refl}
use Rattle.std.specs.Prelude.{if◌then◌else◌}

pub and_l : (a b : Bool) → T (a && b) → T a
and_l true b t = tt
and_l false b t = t

pub and_r : (a b : Bool) → T (a && b) → T b
and_r true b t = t
and_r false b t = absurd t

pub and_i : (a b : Bool) → T a → T b → T (a && b)
and_i true b s t = t
and_i false b s t = s

pub or_l : (a b : Bool) → T a → T (a || b)
or_l true b t = tt
or_l false b t = absurd t

pub or_r : (a b : Bool) → T b → T (a || b)
or_r true b t = tt
or_r false b t = t

pub or_e : (a b : Bool) → T (a || b) → T a ⊎ T b
or_e true b t = inl tt
or_e false b t = inr t

-- a test passes or fails
pub passes : (b : Bool) → T b ⊎ (T b → ⊥)
passes true = inl tt
passes false = inr (λ t. t)

pub T_true : (b : Bool) → T b → b ≡ true
T_true true t = refl
T_true false t = absurd t

pub true_T : (b : Bool) → b ≡ true → T b
true_T b e = subst T (sym e) tt

pub T_false : (b : Bool) → T (not b) → b ≡ false
T_false true t = absurd t
T_false false t = refl

pub not-not : (b : Bool) → not b ≡ false → T b
not-not true e = tt
not-not false e = subst T e tt

pub passed : (b : Bool) → T b → not b ≡ false
passed true t = refl
passed false t = absurd t

pub no_false : (b : Bool) → (T b → ⊥) → b ≡ false
no_false true f = absurd (f tt)
no_false false f = refl

pub false_no : (b : Bool) → b ≡ false → T b → ⊥
false_no b e t = subst T e t

-- two tests that pass together are the same
pub same_test : (a b : Bool) → (T a → T b) → (T b → T a) → a ≡ b
same_test true b f g = sym (T_true b (f tt))
same_test false true f g = absurd (g tt)
same_test false false f g = refl

pub or-false : (a b : Bool) → a ≡ false → b ≡ false → (a || b) ≡ false
or-false a b p q = rw p q

pub of_or_false : (a b : Bool) → (a || b) ≡ false → (a ≡ false) × (b ≡ false)
of_or_false true b e = absurd (subst T e tt)
of_or_false false b e = (refl, e)

-- three tests in another order
pub or_turned : (a b c : Bool) → (a || (b || c)) ≡ ((b || a) || c)
or_turned a b c = sym (or_assoc a b c) ∙ rw (or_comm a b)

pub not_and : (a b : Bool) → not (a && b) ≡ (not a || not b)
not_and true b = refl
not_and false b = refl

pub eq_T : (x y : ℕ) → x ≡ y → T (eqb x y)
eq_T x y e = rw (← e) (eqb_refl x)

pub eq_or : (x y : ℕ) → (x ≡ y) ⊎ (x ≡ y → ⊥)
eq_or x y = go (eqb x y) refl
  where
    go : (b : Bool) → eqb x y ≡ b → (x ≡ y) ⊎ (x ≡ y → ⊥)
    go true e = inl (eqb-true x y e)
    go false e = inr (eqb-false x y e)

pub lt_or : (x y : ℕ) → (x < y) ⊎ (y ≤ x)
lt_or x y = go (ltb x y) refl
  where
    go : (b : Bool) → ltb x y ≡ b → (x < y) ⊎ (y ≤ x)
    go true e = inl (ltb-true x y e)
    go false e = inr (ltb-false x y e)

-- two tests agree where each passes when the other does
pub ltb_same : (x y z w : ℕ) → (x < y → z < w) → (y ≤ x → w ≤ z) → ltb x y ≡ ltb z w
ltb_same x y z w f g = ⊎_elim (λ l. lt-ltb x y l ∙ sym (lt-ltb z w (f l))) (λ l. le-ltb x y l ∙ sym (le-ltb z w (g l))) (lt_or x y)

-- a number other than v is below v + 1 exactly where it is below v
pub ltb_next : (x v : ℕ) → (x ≡ v → ⊥) → ltb x v ≡ ltb x (v + 1)
ltb_next x v d = ltb_same x v x (v + 1) (λ l. omega arith) (λ l. omega arith)

-- x is not at least y exactly where it is less; and the other way round
pub not_leb : (x y : ℕ) → not (leb y x) ≡ ltb x y
not_leb x y = ⊎_elim
    (λ h. rw (lt-leb y x h, lt-ltb x y h) refl)
    (λ h. rw (le-leb y x h, le-ltb x y h) refl)
    (lt_or x y)

pub not_ltb : (x y : ℕ) → not (ltb x y) ≡ leb y x
not_ltb x y = ap not (sym (not_leb x y)) ∙ Bool.not-not (leb y x)

-- what holds of each value where the test picks it holds of the one picked
pub picked : {A : Type 0} (P : A → Type 0) (t : Bool) (x y : A) → (t ≡ true → P x) → (t ≡ false → P y) → P (if t then x else y)
picked P true x y f g = f refl
picked P false x y f g = g refl
