-- The fields of a line, of which some are written or counted.
-- Assumes nothing.
use mathlib.Core.Path.{◌≡◌, ap}
use mathlib.Core.List.{List, [], ◌∷◌, ◌++◌, map}
use Prim.Native.Nat.{ℕ, ◌+◌, ◌*◌, ◌≤◌, ◌<◌}
use native.Mathlib.Omega.{arith}
use lib.ListN.{length, get_or, drop, length-append, drop_of_length-le}
use Rattle.model.specs.Numbers.{digits}
use Rattle.model.specs.Lines.{fields_text, number_line_of}
use Rattle.model.proofs.Loops.{drop_next}

-- a separator in front of each number, and the line feed
abbrev pub fields_of : (separator : ℕ) → List ℕ → List ℕ
fields_of separator xs = fields_text separator (map digits xs)

module _ (c : ℕ) (xs : List ℕ) (i : ℕ) where
  pub fields_next : i < length xs → fields_of c (drop i xs) ≡ (c ∷ digits (get_or xs i 0)) ++ fields_of c (drop (i + 1) xs)
  fields_next h = ap (fields_of c) (drop_next xs i h)

  pub fields_end : length xs ≤ i → fields_of c (drop i xs) ≡ 10 ∷ []
  fields_end h = ap (fields_of c) (drop_of_length-le xs h)

-- ---- the length of a line, of which the word, the line feed and i fields are counted

pub record LineCounted (word xs : List ℕ) (total i : ℕ) : Type 0 where
  pub within : i ≤ length xs
  pub sum : (c : ℕ) → total + length (fields_of c (drop i xs)) ≡ length (number_line_of word c xs) + 1
  pub few : total ≤ length word + 11 * i + 1

module _ (word xs : List ℕ) where
  pub line_none : LineCounted word xs (length word + 1) 0
  line_none = record { within = omega arith; sum = λ c. omega (arith, length-append word (fields_of c xs)); few = omega arith }

module _ {word xs : List ℕ} {total i : ℕ} (l : LineCounted word xs total i) where
  pub line_more : {r : ℕ} → i < length xs → r ≡ length (digits (get_or xs i 0)) → r ≤ 10 → LineCounted word xs (total + (r + 1)) (i + 1)
  line_more h e f = record {
    within = omega arith;
    sum = λ c. omega (arith, l.sum c, simp length-append at (ap length (fields_next c xs i h)));
    few = omega arith;
  }

  pub line_done : length xs ≤ i → ((c : ℕ) → total ≡ length (number_line_of word c xs)) × (total ≤ length word + 11 * length xs + 1)
  line_done h = (λ c. omega (arith, l.sum c, ap length (fields_end c xs i h)), omega arith)
