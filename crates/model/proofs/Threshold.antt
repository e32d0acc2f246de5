-- The search for the threshold finds it: the rule holds, and holds for no smaller number. And the threshold in force.
-- Assumes nothing.
use mathlib.Core.Path.{◌≡◌, refl}
use mathlib.Core.Bool.{false}
use Prim.Native.Nat.{ℕ, zero, suc, ◌+◌, ◌*◌, ◌^◌, ◌≤◌, ◌<◌, zero-le}
use native.Mathlib.Nat.{le_refl, le-mul_of_pos_right, zero-lt-suc, two-pow-succ}
use native.Mathlib.Omega.{arith}
use borrow.Author.Tests.{le-ltb, ltb-false, ne_eqb}
use lib.Dec.{ltb, leb, leb→le, le→leb, ltb→lt, lt→ltb}
use Rattle.model.specs.Basics.{none}
use Rattle.model.specs.Threshold.{bit_length, threshold, in_force, bad_threshold}
use Rattle.model.proofs.Lists.{First, found, nothing, first_below}

lt_two_pow : (n : ℕ) → n < 2 ^ n
lt_two_pow zero = le_refl _
lt_two_pow (suc n) = omega (arith, lt_two_pow n, two-pow-succ n)

-- n is below 2 ^ L, and below no smaller power of two
pub record BitLength (n l : ℕ) : Type 0 where
  pub fits : n < 2 ^ l
  pub least : (k : ℕ) → n < 2 ^ k → l ≤ k

pub bit_length_is : (n : ℕ) → BitLength n (bit_length n)
unfolding bit_length
bit_length_is n = at (first_below _ _ _)
  where
    at : {r : ℕ} → First (λ k. ltb n (2 ^ k)) none 0 (n + 1) r → BitLength n r
    at {r} (found lo hi t f) = record {
      fits = ltb→lt _ _ t;
      least = λ k h. le_of k (λ b. f k zero-le b (lt→ltb n _ h));
    }
      where
        le_of : (k : ℕ) → (k < r → ⊥) → r ≤ k
        le_of k g = omega arith
    at (nothing e f) = absurd (f n zero-le (omega arith) (lt→ltb n _ (lt_two_pow _)))

square_le : (w : ℕ) → w ≤ w * w
square_le zero = zero-le
square_le (suc w) = le-mul_of_pos_right _ (zero-lt-suc _)

pub record Threshold (n s : ℕ) : Type 0 where
  pub enough : n * bit_length n ≤ s * s
  pub least : (t : ℕ) → n * bit_length n ≤ t * t → s ≤ t

pub threshold_is : (n : ℕ) → Threshold n (threshold n)
unfolding threshold
threshold_is n = at (first_below _ _ _)
  where
    at : {r : ℕ} → First (λ s. leb (n * bit_length n) (s * s)) none 0 (n * bit_length n + 1) r → Threshold n r
    at {r} (found lo hi t f) = record {
      enough = leb→le _ _ t;
      least = λ k h. le_of k (λ b. f k zero-le b (le→leb (n * bit_length n) _ h));
    }
      where
        le_of : (k : ℕ) → (k < r → ⊥) → r ≤ k
        le_of k g = omega arith
    at (nothing e f) =
        let w = n * bit_length n in
        absurd (f w zero-le (omega arith) (le→leb w _ (square_le _)))

-- ---- the threshold that a caller gives

pub in_force_stored : (n : ℕ) → in_force n 0 ≡ threshold n
unfolding in_force
in_force_stored n = refl

pub in_force_given : (n t : ℕ) → (t ≡ 0 → ⊥) → in_force n t ≡ t
unfolding in_force
in_force_given n t d = rw (ne_eqb t 0 d) refl

pub good_threshold : (t : ℕ) → t ≤ 1024 → bad_threshold t ≡ false
unfolding bad_threshold
good_threshold t h = le-ltb 1024 t h

pub threshold_bound : (t : ℕ) → bad_threshold t ≡ false → t ≤ 1024
unfolding bad_threshold
threshold_bound t e = ltb-false 1024 t e
