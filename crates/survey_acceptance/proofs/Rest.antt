-- A test of all nodes below n, made one after the other: what was found and the nodes left still determine the result.
-- Assumes nothing.
use mathlib.Core.Path.{◌≡◌, sym, ◌∙◌}
use mathlib.Core.Bool.{Bool, ◌&&◌, and_assoc, and-true}
use Prim.Native.Nat.{ℕ, suc, ◌+◌, ◌-◌, ◌≤◌, ◌<◌}
use native.Mathlib.Nat.{sub-zero}
use native.Mathlib.Numerals.{add-one}
use native.Mathlib.Omega.{arith}
use Rattle.model.specs.Basics.{all, from, up_to}

-- the nodes below v are tested
pub record Tested (p : ℕ → Bool) (n : ℕ) (whole good : Bool) (v : ℕ) : Type 0 where
  pub within : v ≤ n
  pub rest : (good && all p (from v (n - v))) ≡ whole

pub tested_none : {p : ℕ → Bool} {n : ℕ} {good : Bool} → Tested p n (good && all p (up_to n)) good 0
unfolding up_to
tested_none {n = n} = record { within = omega arith; rest = rw (sub-zero n) }

module _ {p : ℕ → Bool} {n : ℕ} {whole good : Bool} {v : ℕ} (t : Tested p n whole good v) where
  pub tested_next : v < n → Tested p n whole (good && p v) (v + 1)
  unfolding from all
  tested_next h =
      let e : n - v ≡ suc (n - suc v) = omega arith in
      record { within = omega arith; rest = and_assoc good (p v) _ ∙ rw (add-one v) (rw e at t.rest) }

  pub tested_all : n ≤ v → good ≡ whole
  unfolding from all
  tested_all h = let e : n - v ≡ 0 = omega arith in sym (and-true good) ∙ rw e at t.rest
