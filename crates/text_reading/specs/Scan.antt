-- What a text begins with, as the reader goes through it: digits, a number, a line up to its end, a field, some numbers, a line by its
-- shape; and what its functions found.
-- Assumes nothing.
use Rattle.std.specs.Prelude.{◌≡◌, Bool, true, false, not, ◌&&◌, List, [], ◌∷◌, ◌++◌, ℕ, zero, suc, ◌+◌, ◌-◌, ◌<◌, T, ltb, leb, eqb, length, get_or, drop}
use Rattle.std.specs.Prelude.{Option as Found, Some, None}
use Rattle.std.proofs.Math.Option.{Option, none as missing, some, map, bind}
use Rattle.model.specs.Basics.{has}
use Rattle.std.specs.Prelude.{if◌then◌else◌}
use Rattle.model.specs.Numbers.{is_digit, is_number, value_of}
use Rattle.model.specs.Lines.{behind, number_line, two_line}
use Rattle.text_reading.specs.declared.Number.{Number}
use Rattle.text_reading.specs.declared.Numbers.{Numbers}
use Rattle.text_reading.specs.declared.Pair.{Pair}

-- the digits that a text begins with
unfoldable pub run : List ℕ → List ℕ
run [] = []
run (b ∷ t) = if is_digit b then b ∷ run t else []

-- the number at a place, with the place after it: all the digits that follow, if the text rule admits them
abbrev pub number_of : ℕ → List ℕ → Found Number
number_of at t = if is_number t then Some (record { value = value_of t; end = at + length t }) else None

unfoldable pub number_at : List ℕ → ℕ → Found Number
number_at s at = number_of at (run (drop at s))

-- byte b stands at place i
unfoldable pub has_byte : List ℕ → ℕ → ℕ → Bool
has_byte s i b = ltb i (length s) && eqb (get_or s i 0) b

-- the line at a place ends at place e, by a line feed or with the text
pub record LineEnd (s : List ℕ) (at e : ℕ) : Type 0 where
  pub line : List ℕ
  pub is_text : drop at s ≡ line ++ drop e s
  pub free : T (has 10 line) → ⊥
  pub feed : e < length s → get_or s e 0 ≡ 10

-- a text begins with a word
unfoldable pub begins : (word : List ℕ) → List ℕ → Bool
begins [] t = true
begins (w ∷ word) [] = false
begins (w ∷ word) (x ∷ t) = eqb x w && begins word t

-- the number that a text begins with, and the text after it
unfoldable pub number_first : List ℕ → Option (ℕ × List ℕ)
number_first t = let ds = run t in if is_number ds then some (value_of ds, drop (length ds) t) else missing

-- the same after a separator
unfoldable pub field_first : (separator : ℕ) → List ℕ → Option (ℕ × List ℕ)
field_first separator t = bind (behind (separator ∷ []) t) number_first

-- a number in front of others
abbrev pub on_numbers : ℕ → Option (List ℕ × List ℕ) → Option (List ℕ × List ℕ)
on_numbers x o = map (λ l. (x ∷ l.0, l.1)) o

-- as many numbers, each after a separator, and the text after them
unfoldable pub numbers_first : (separator count : ℕ) → List ℕ → Option (List ℕ × List ℕ)
numbers_first separator zero t = some ([], t)
numbers_first separator (suc count) t = bind (field_first separator t) (λ f. on_numbers f.0 (numbers_first separator count f.1))

-- ---- a line by its shape

-- a shape that the reader knows: a word of one line, a separator below the digits that is no line feed, and at most three numbers
unfoldable pub is_shape : (word : List ℕ) (separator count : ℕ) → Bool
is_shape word separator count = not (has 10 word) && (ltb separator 48 && not (eqb separator 10) && leb count 3)

-- the line that a text begins with, by its shape; missing for a shape that the reader does not know
abbrev pub line_by : (word : List ℕ) (separator count : ℕ) → List ℕ → Option (List ℕ × List ℕ)
line_by word separator count t = if is_shape word separator count then number_line word separator count t else missing

-- a line of two numbers
abbrev pub pair_by : (word : List ℕ) (separator : ℕ) → List ℕ → Option (ℕ × ℕ × List ℕ)
pair_by word separator t = if is_shape word separator 2 then two_line word separator t else missing

-- ---- what was found in a text, as these definitions have it

abbrev pub found_number : List ℕ → Found Number → Option (ℕ × List ℕ)
found_number s (Some n) = some (n.value, drop n.end s)
found_number s None = missing

-- the last ones of three
abbrev pub found_numbers : List ℕ → (count : ℕ) → Found Numbers → Option (List ℕ × List ℕ)
found_numbers s count (Some n) = some (drop (3 - count) (n.third_last ∷ n.second_last ∷ n.last ∷ []), drop n.end s)
found_numbers s count None = missing

abbrev pub found : List ℕ → Found (Pair ℕ) → Option (ℕ × ℕ × List ℕ)
found s (Some p) = some (p.a, p.b, drop p.end s)
found s None = missing
