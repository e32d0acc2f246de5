-- The square rule as a test, and the law that carries a passed test to each entry of the table.
-- Assumes nothing.
use mathlib.Core.Bool.{Bool, ◌&&◌}
use mathlib.Core.Logic.{⊎_elim}
use mathlib.Core.Path.{◌≡◌}
use mathlib.Core.List.{List}
use Prim.Native.Nat.{ℕ, suc, pred, ◌-◌, ◌*◌, ◌≤◌, ◌<◌}
use native.Mathlib.Nat.{le_antisymm, le-pred_of_lt, mul-le-mul}
use native.Mathlib.Omega.{arith}
use lib.ListN.{length, get_or}
use lib.Dec.{T, leb, ltb, eqb, leb→le, ltb→lt, eqb→eq}
use mir.Syntax.{w64}
use mir.Val.{Fits}
use Rattle.model.specs.Threshold.{bit_length, threshold}
use Rattle.model.proofs.Tests.{and_l, and_r, lt_or}
use Rattle.model.proofs.Threshold.{threshold_is}
use Rattle.base_threshold.proofs.Table.{every, at}

-- s * s reaches n * L(n), and the square before it does not; and s fits 16 bits
abbrev pub square : ℕ → ℕ → Bool
square n s = leb (n * bit_length n) (s * s) && ltb (pred s * pred s) (n * bit_length n) && ltb s 65536

-- the rule at place k of the table, which is for n = k + 1
abbrev pub rule_at : ℕ → ℕ → Bool
rule_at k s = square (suc k) s

-- what the test says
record Square (n s : ℕ) : Type 0 where
  enough : n * bit_length n ≤ s * s
  before : pred s * pred s < n * bit_length n
  small : s < 65536

of_square : (n s : ℕ) → T (square n s) → Square n s
of_square n s t =
    let N = n * bit_length n in
    let A = leb N (s * s) in
    let B = ltb (pred s * pred s) N in
    let C = ltb s 65536 in
    let both = and_l (A && B) C t in
    record {
      enough = leb→le N (s * s) (and_l A B both);
      before = ltb→lt (pred s * pred s) N (and_r A B both);
      small = ltb→lt s 65536 (and_r (A && B) C t);
    }

least : (N s t : ℕ) → pred s * pred s < N → N ≤ t * t → s ≤ t
least N s t below reaches =
    ⊎_elim (λ l. let k = le-pred_of_lt l in absurd (omega (arith, mul-le-mul k k))) (λ h. h) (lt_or t s)

-- only the threshold passes
square_is : (n s : ℕ) → Square n s → s ≡ threshold n
square_is n s q =
    let r = threshold_is n in
    le_antisymm (least (n * bit_length n) s (threshold n) q.before r.enough) (r.least s q.enough)

-- a table of 1,024 entries that passes the test at every entry has the threshold of n at n - 1
module _ (table : List ℕ) (passes : T (eqb (length table) 1024 && every rule_at 0 table)) (n : ℕ) (one : 1 ≤ n) (most : n ≤ 1024) where
  passed : Square n (get_or table (n - 1) 0)
  passed =
      let long = eqb (length table) 1024 in
      let size : length table ≡ 1024 = eqb→eq (length table) 1024 (and_l long (every rule_at 0 table) passes) in
      let e : suc (n - 1) ≡ n = omega arith in
      of_square n (get_or table (n - 1) 0) (rw e at (at rule_at table (and_r long (every rule_at 0 table) passes) (n - 1) (omega arith)))

  pub table_holds : get_or table (n - 1) 0 ≡ threshold n
  table_holds = square_is n (get_or table (n - 1) 0) passed

  pub table_fits : Fits w64 (get_or table (n - 1) 0)
  table_fits = omega (arith, passed.small)
