-- A row improved entry by entry by a route through a hub.
-- Assumes nothing.
use mathlib.Core.Path.{◌≡◌, sym, ap, ap₂, ◌∙◌}
use mathlib.Core.List.{List, [], ◌∷◌, ◌++◌, append-nil}
use Prim.Native.Nat.{ℕ, ◌+◌, ◌≤◌, ◌<◌, min}
use native.Mathlib.Numerals.{add-one}
use native.Mathlib.Omega.{arith}
use lib.ListN.{length, get_or, take, drop, set, length-set, drop_of_length-le}
use lib.Seq.{take_all, append_snoc, take-suc-set, drop-set-lt}
use Rattle.model.proofs.Loops.{drop_next}
use Rattle.table_report.specs.Relaxed.{relaxed}

-- after b entries: the front is improved, and what is left still determines the result
pub record Relaxing (x : ℕ) (other row₀ row : List ℕ) (b : ℕ) : Type 0 where
  pub long : length row₀ ≡ length other
  pub within : b ≤ length row
  pub same : length row ≡ length row₀
  pub whole : take b row ++ relaxed x (drop b other) (drop b row) ≡ relaxed x other row₀

module _ {x : ℕ} {other row₀ row : List ℕ} {b : ℕ} (r : Relaxing x other row₀ row b) where
  pub relaxing_next : {v : ℕ} → b < length row → v ≡ min (x + get_or other b 0) (get_or row b 0) → Relaxing x other row₀ (set row b v) (b + 1)
  unfolding relaxed
  relaxing_next {v} h q =
      let rest : List ℕ = relaxed x (drop (b + 1) other) (drop (b + 1) row) in
      let front : take (b + 1) (set row b v) ≡ take b row ++ v ∷ [] =
      ap (λ (k : ℕ). take k (set row b v)) (add-one b) ∙ take-suc-set row b v h in
      let here : relaxed x (drop b other) (drop b row) ≡ v ∷ rest =
      ap₂ (relaxed x) (drop_next other b (omega (arith, r.same, r.long))) (drop_next row b h) ∙ ap (λ (k : ℕ). k ∷ rest) (sym q) in
      record {
        long = r.long;
        within = omega (arith, length-set row b v);
        same = length-set row b v ∙ r.same;
        whole =
            ap₂ (λ (p q : List ℕ). p ++ relaxed x (drop (b + 1) other) q) front (drop-set-lt (b + 1) row b v (omega arith))
            ∙ append_snoc (take b row) v rest
            ∙ ap (λ (q : List ℕ). take b row ++ q) (sym here)
            ∙ r.whole;
      }

  pub relaxing_done : length row ≤ b → row ≡ relaxed x other row₀
  unfolding relaxed
  relaxing_done h =
      let k : length other ≤ b = omega (arith, r.same, r.long) in
      sym (append-nil row)
      ∙ ap₂ (λ (p q : List ℕ). p ++ q) (sym (take_all b row h))
      (sym (ap₂ (relaxed x) (drop_of_length-le other k) (drop_of_length-le row h)))
      ∙ r.whole
