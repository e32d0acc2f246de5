-- The digits that a text begins with.
-- Assumes nothing.
use mathlib.Core.Path.{◌≡◌, refl, sym, ap, ◌∙◌}
use mathlib.Core.Logic.{◌⊎◌, inl, inr, ⊎_elim}
use mathlib.Core.Bool.{true, false, not, ◌&&◌, and-false}
use mathlib.Core.List.{List, [], ◌∷◌, ◌++◌}
use Prim.Native.Nat.{ℕ, zero, suc, ◌+◌, ◌-◌, ◌*◌, ◌^◌, ◌≤◌, ◌<◌}
use native.Mathlib.Nat.{pow-suc, pow-le-pow_right, zero-lt-suc, lt_of_lt_of_le}
use native.Mathlib.Numerals.{add-one}
use native.Mathlib.Omega.{arith}
use borrow.Author.Tests.{leb-true, lt-leb}
use lib.Dec.{T, leb, not_T}
use lib.ListN.{length, get_or, take, drop, drop_of_length-le}
use Rattle.model.specs.Basics.{all}
use Rattle.model.specs.Numbers.{is_digit, value_from, value_of}
use Rattle.model.proofs.Loops.{drop_next}
use Rattle.model.proofs.Tests.{and_l, and_r, and_i, passes, T_true, true_T, T_false}
use Rattle.text_reading.specs.Scan.{run}

abbrev pub Digits : List ℕ → Type 0
Digits t = T (all is_digit t)

-- no digit comes first
abbrev pub NoDigit : List ℕ → Type 0
NoDigit [] = Unit {0}
NoDigit (b ∷ t) = T (not (is_digit b))

pub run_digit : (b : ℕ) (t : List ℕ) → T (is_digit b) → run (b ∷ t) ≡ b ∷ run t
unfolding run
run_digit b t d = rw (T_true (is_digit b) d)

pub run_stop : (b : ℕ) (t : List ℕ) → T (not (is_digit b)) → run (b ∷ t) ≡ []
unfolding run
run_stop b t d = rw (T_false (is_digit b) d)

pub run_nil : run [] ≡ []
unfolding run
run_nil = refl

-- by whether the first byte is a digit
run_cases : (P : List ℕ → Type 0) (b : ℕ) (t : List ℕ)
    → (T (is_digit b) → P (b ∷ run t)) → (T (not (is_digit b)) → P []) → P (run (b ∷ t))
run_cases P b t f g =
    ⊎_elim
    (λ d. rw (run_digit b t d) (f d))
    (λ no. let d = not_T (is_digit b) no in rw (run_stop b t d) (g d))
    (passes (is_digit b))

pub run_all : (t : List ℕ) → Digits (run t)
unfolding all
run_all [] = rw run_nil tt
run_all (b ∷ t) = run_cases Digits b t (λ d. and_i (is_digit b) (all is_digit (run t)) d (run_all t)) (λ d. tt)

pub run_append : (p q : List ℕ) → Digits p → NoDigit q → run (p ++ q) ≡ p
unfolding all
run_append [] [] a n = run_nil
run_append [] (b ∷ q) a n = run_stop b q n
run_append (b ∷ p) q a n =
    run_digit b (p ++ q) (and_l (is_digit b) (all is_digit p) a)
    ∙ ap (λ (x : List ℕ). b ∷ x) (run_append p q (and_r (is_digit b) (all is_digit p) a) n)

pub run_split : (t : List ℕ) → t ≡ run t ++ drop (length (run t)) t
run_split [] = rw run_nil
run_split (b ∷ t) =
    run_cases (λ r. b ∷ t ≡ r ++ drop (length r) (b ∷ t)) b t
    (λ d. ap (λ (x : List ℕ). b ∷ x) (run_split t)) (λ d. refl)

pub run_rest : (t : List ℕ) → NoDigit (drop (length (run t)) t)
run_rest [] = rw run_nil tt
run_rest (b ∷ t) = run_cases (λ r. NoDigit (drop (length r) (b ∷ t))) b t (λ d. run_rest t) (λ d. d)

-- the digits among the first bytes are the first of the digits
pub run_take : (k : ℕ) (t : List ℕ) → run (take k t) ≡ take k (run t)
run_take zero t = run_nil
run_take (suc k) [] = run_nil ∙ ap (take (suc k)) (sym run_nil)
run_take (suc k) (b ∷ t) =
    ⊎_elim
    (λ d. run_digit b (take k t) d ∙ ap (λ (x : List ℕ). b ∷ x) (run_take k t) ∙ ap (take (suc k)) (sym (run_digit b t d)))
    (λ no. let d = not_T (is_digit b) no in run_stop b (take k t) d ∙ ap (take (suc k)) (sym (run_stop b t d)))
    (passes (is_digit b))

-- ---- by places: what a loop over some bytes asks

not_digit : (b : ℕ) → (b < 48) ⊎ (57 < b) → T (not (is_digit b))
unfolding is_digit
not_digit b (inl h) = rw (lt-leb 48 b h) tt
not_digit b (inr h) = rw (lt-leb b 57 h, and-false (leb 48 b)) tt

digit_bounds : (b : ℕ) → is_digit b ≡ true → (48 ≤ b) × (b ≤ 57)
unfolding is_digit
digit_bounds b e =
    let d = true_T (leb 48 b && leb b 57) e in
    (leb-true 48 b (T_true (leb 48 b) (and_l (leb 48 b) (leb b 57) d)), leb-true b 57 (T_true (leb b 57) (and_r (leb 48 b) (leb b 57) d)))

-- the first i of the bytes t are digits, of value v
pub record Read (t : List ℕ) (v i : ℕ) : Type 0 where
  pub within : i ≤ length t
  pub small : v < 10 ^ i
  pub says : value_from v (run (drop i t)) ≡ value_of (run t)
  pub counts : i + length (run (drop i t)) ≡ length (run t)

pub read_none : (t : List ℕ) → Read t 0 0
unfolding value_of
read_none t = record { within = omega arith; small = omega arith; says = refl; counts = omega arith }

module _ {t : List ℕ} {v i : ℕ} (r : Read t v i) where
  -- the byte at place i
  abbrev b : ℕ
  b = get_or t i 0

  pub read_next : i < length t → is_digit b ≡ true → Read t (v * 10 + (b - 48)) (i + 1)
  unfolding value_from
  read_next h d =
      let next : run (drop i t) ≡ b ∷ run (drop (i + 1) t) = ap run (drop_next t i h) ∙ run_digit b (drop (i + 1) t) (true_T (is_digit b) d) in
      record {
        within = omega arith;
        small = let h = digit_bounds b d in rw (add-one, pow-suc) (omega (arith, r.small, h.0, h.1));
        says = ap (value_from v) (sym next) ∙ r.says;
        counts = omega (arith, r.counts, ap length next);
      }

  -- all digits were read
  all_read : run (drop i t) ≡ [] → (v ≡ value_of (run t)) × (i ≡ length (run t))
  unfolding value_from
  all_read e = (ap (value_from v) (sym e) ∙ r.says, omega (arith, r.counts, ap length e))

  pub read_stop_lem : i < length t → (b < 48) ⊎ (57 < b) → (v ≡ value_of (run t)) × (i ≡ length (run t))
  read_stop_lem h s = all_read (ap run (drop_next t i h) ∙ run_stop b (drop (i + 1) t) (not_digit b s))

  pub read_stop : i < length t → is_digit b ≡ false → (v ≡ value_of (run t)) × (i ≡ length (run t))
  read_stop h s = all_read (ap run (drop_next t i h) ∙ run_stop b (drop (i + 1) t) (true_T (not (is_digit b)) (ap not s)))

  pub read_end : length t ≤ i → (v ≡ value_of (run t)) × (length t ≡ length (run t))
  read_end h = let a = all_read (ap run (drop_of_length-le t h) ∙ run_nil) in (a.0, omega (arith, r.within, a.1))

  -- ten digits fit 64 bits, and one more does too
  pub read_small : i ≤ 10 → v < 10 ^ 10
  read_small h = lt_of_lt_of_le r.small (pow-le-pow_right {n = 10} (zero-lt-suc 9) {i = i} {j = 10} h)
