-- Numbers as decimal text. A byte is a number: 48 to 57 are the digits.
-- Assumes nothing.
use Rattle.std.specs.Prelude.{Bool, false, not, ◌&&◌, ◌||◌, List, [], ◌∷◌, ◌++◌, ℕ, zero, suc, ◌+◌, ◌-◌, ◌*◌, ◌/◌, ◌%◌, eqb, ltb, leb, length}
use Rattle.model.specs.Basics.{all}
use Rattle.std.specs.Prelude.{if◌then◌else◌}

-- a digit (rule 2.3)
unfoldable pub is_digit : ℕ → Bool
is_digit c = leb 48 c && leb c 57

-- rule 2.3: one to ten digits, without a leading zero, except 0 itself
unfoldable pub is_number : List ℕ → Bool
is_number [] = false
is_number (d ∷ ds) = all is_digit (d ∷ ds) && leb (length ds) 9 && (eqb (length ds) 0 || not (eqb d 48))

-- the value of digits that follow the value v (Horner's rule; rule 2.3)
unfoldable pub value_from : ℕ → List ℕ → ℕ
value_from v [] = v
value_from v (d ∷ ds) = value_from (v * 10 + (d - 48)) ds

-- the value of digits (rule 2.3)
unfoldable pub value_of : List ℕ → ℕ
value_of ds = value_from 0 ds

-- the decimal text of x, if it has at most `most` digits: one digit where x is below ten; else the text of x / 10, then the last digit
-- (rule 2.3)
unfoldable pub digits_within : ℕ → ℕ → List ℕ
digits_within zero x = []
digits_within (suc most) x =
    let more = digits_within most (x / 10) ++ ((48 + x % 10) ∷ []) in
    if ltb x 10 then (48 + x) ∷ [] else more

-- rule 2.3: how a number is written (x has at most x + 1 digits)
unfoldable pub digits : ℕ → List ℕ
digits x = digits_within (suc x) x
