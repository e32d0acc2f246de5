-- A list that is filled with one value.
-- Assumes nothing.
use mathlib.Core.Path.{◌≡◌, refl, sym, ap, ◌∙◌}
use mathlib.Core.List.{List, [], ◌∷◌, ◌++◌}
use Prim.Native.Nat.{ℕ, zero, suc, ◌+◌, ◌<◌}
use native.Mathlib.Nat.{not-suc-le-zero, le_of_suc-le-suc}
use native.Mathlib.Numerals.{add-one}
use lib.ListN.{length, set, drop, replicate, length-replicate}

filled_suc : {A : Type 0} (i : ℕ) (v : A) (d : List A) → i < length d → set (replicate i v ++ drop i d) i v ≡ replicate (suc i) v ++ drop (suc i) d
filled_suc i v [] h = absurd (not-suc-le-zero h)
filled_suc zero v (x ∷ d) h = refl
filled_suc (suc i) v (x ∷ d) h = ap (◌∷◌ v) (filled_suc i v d (le_of_suc-le-suc h))

-- one entry more
pub filled_more : {A : Type 0} (i : ℕ) (v : A) (d : List A) → i < length d → set (replicate i v ++ drop i d) i v ≡ replicate (i + 1) v ++ drop (i + 1) d
filled_more i v d h = rw add-one (filled_suc i v d h)

-- a list of one repeated value is `replicate` of its length
pub filled_own : {A : Type 0} (v : A) (k : ℕ) {s : List A} → s ≡ replicate k v → s ≡ replicate (length s) v
filled_own v k e = e ∙ ap (λ (j : ℕ). replicate j v) (sym (ap length e ∙ length-replicate k v))
