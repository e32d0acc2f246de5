-- A number's decimal text, written digit by digit.
-- Assumes nothing.
use mathlib.Core.List.{List, [], ◌∷◌}
use Prim.Native.Nat.{ℕ, ◌+◌, ◌/◌, ◌%◌, ◌^◌, ◌≤◌, ◌<◌}
use native.Mathlib.Omega.{arith}
use lib.ListN.{length}
use Rattle.base_lists.specs.Written.{Wrote}
use Rattle.base_lists.proofs.Written.{wrote_then}
use Rattle.model.specs.Numbers.{digits}
use Rattle.model.proofs.Numbers.{digits_small, digits_more, length_more, length_le}

-- below ten the one digit is the text
pub wrote_small : {buf buf' : List ℕ} {at e : ℕ} (n : ℕ) → n < 10
    → Wrote buf buf' at e ((48 + n) ∷ []) → Wrote buf buf' at e (digits n)
wrote_small n h w = rw (digits_small n h) w

-- from ten on the text is that of n / 10 and the last digit behind it
pub wrote_more : {buf buf' buf'' : List ℕ} {at i e : ℕ} (n : ℕ) → 10 ≤ n → at + length (digits n) ≤ length buf
    → Wrote buf buf' at i (digits (n / 10)) → Wrote buf' buf'' i e ((48 + n % 10) ∷ []) → Wrote buf buf'' at e (digits n)
wrote_more n h r p q = rw (digits_more n h) (wrote_then (omega (arith, length_more n h)) p q)

-- a number of 32 bits has at most ten digits
pub digits_few : (n : ℕ) → n < 2 ^ 32 → length (digits n) ≤ 10
digits_few n h = length_le 9 n (omega arith)
