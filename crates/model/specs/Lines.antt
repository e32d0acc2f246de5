-- Lines by their shape: a first word, then fields with a separator in front of each, then the line feed (byte 10).
-- Assumes nothing.
use Rattle.std.specs.Prelude.{List, [], ◌∷◌, ◌++◌, map, ℕ, zero, suc, T, eqb, get_or}
use Rattle.std.proofs.Math.Option
use Rattle.std.proofs.Math.Option.{Option, none as missing, some, bind}
use Rattle.model.specs.Basics.{has, gather}
use Rattle.std.specs.Prelude.{if◌then◌else◌}
use Rattle.model.specs.Numbers.{is_number, value_of, digits}

-- x in front of the first field (rule 2.2)
unfoldable pub on_first : ℕ → List (List ℕ) → List (List ℕ)
on_first x [] = (x ∷ []) ∷ []
on_first x (f ∷ fs) = (x ∷ f) ∷ fs

-- rule 2.2: the fields that byte c separates
unfoldable pub split : ℕ → List ℕ → List (List ℕ)
split c [] = [] ∷ []
split c (x ∷ xs) = let r = split c xs in if eqb x c then [] ∷ r else on_first x r

-- fields with byte c between them (rule 2.2)
unfoldable pub joined : ℕ → List (List ℕ) → List ℕ
joined c [] = []
joined c (f ∷ fs) = f ++ gather (λ g. c ∷ g) fs

-- no field has byte c in it (rule 2.2)
abbrev pub AllFree : ℕ → List (List ℕ) → Type 0
AllFree c [] = Unit {0}
AllFree c (f ∷ fs) = (T (has c f) → ⊥) × AllFree c fs

-- x in front of the first of two lists (rule 2.1)
unfoldable pub on_front : ℕ → Option (List ℕ × List ℕ) → Option (List ℕ × List ℕ)
on_front x o = Option.map (λ p. (x ∷ p.0, p.1)) o

-- rule 2.1: the bytes before the first byte c and those after it; missing where there is no c
unfoldable pub cut : ℕ → List ℕ → Option (List ℕ × List ℕ)
cut c [] = missing
cut c (x ∷ xs) = let r = on_front x (cut c xs) in if eqb x c then some ([], xs) else r

-- ---- what a line says

-- the bytes after a word that they begin with; missing where they begin with another (rule 2.2)
unfoldable pub behind : (word : List ℕ) → List ℕ → Option (List ℕ)
behind [] body = some body
behind (w ∷ word) [] = missing
behind (w ∷ word) (x ∷ body) = let r = behind word body in if eqb x w then r else missing

-- fields of which the first is empty, since a separator comes first: those after it (rule 2.2)
unfoldable pub after_empty : List (List ℕ) → Option (List (List ℕ))
after_empty [] = missing
after_empty ([] ∷ fs) = some fs
after_empty ((x ∷ f) ∷ fs) = missing

-- the fields after the word, each with a separator in front (rule 2.2)
unfoldable pub fields_behind : (word : List ℕ) (separator : ℕ) → List ℕ → Option (List (List ℕ))
fields_behind word separator body = bind (behind word body) (λ r. after_empty (split separator r))

-- what a line says, with the text after the line (rule 2.1)
abbrev pub with_rest : {A : Type 0} → List ℕ → Option A → Option (A × List ℕ)
with_rest rest o = Option.map (λ x. (x, rest)) o

-- rules 2.1 and 2.2: the line that a text begins with, as its fields and the text after it. Missing where the line has another form or has
-- no end
unfoldable pub field_line : (word : List ℕ) (separator : ℕ) → List ℕ → Option (List (List ℕ) × List ℕ)
field_line word separator text = bind (cut 10 text) (λ p. with_rest p.1 (fields_behind word separator p.0))

-- the values of as many fields, which are all numbers (rule 2.3)
unfoldable pub numbers_in : (count : ℕ) → List (List ℕ) → Option (List ℕ)
numbers_in zero [] = some []
numbers_in zero (f ∷ fs) = missing
numbers_in (suc count) [] = missing
numbers_in (suc count) (f ∷ fs) =
    let r = Option.map (λ xs. value_of f ∷ xs) (numbers_in count fs) in if is_number f then r else missing

-- rules 2.1 to 2.3: the same of a line with as many fields, which are all numbers
unfoldable pub number_line : (word : List ℕ) (separator count : ℕ) → List ℕ → Option (List ℕ × List ℕ)
number_line word separator count text = bind (field_line word separator text) (λ l. with_rest l.1 (numbers_in count l.0))

-- a line of two numbers (rules 2.1 to 2.3)
unfoldable pub two_line : (word : List ℕ) (separator : ℕ) → List ℕ → Option (ℕ × ℕ × List ℕ)
two_line word separator text = Option.map (λ l. (get_or l.0 0 0, get_or l.0 1 0, l.1)) (number_line word separator 2 text)

-- ---- the text of a line

-- the fields after the word, and the line feed (rules 2.1 and 2.2)
abbrev pub fields_text : (separator : ℕ) → List (List ℕ) → List ℕ
fields_text separator [] = 10 ∷ []
fields_text separator (f ∷ fs) = separator ∷ (f ++ fields_text separator fs)

-- rules 2.1 and 2.2: the text of a line, by its fields
abbrev pub field_line_of : (word : List ℕ) (separator : ℕ) → List (List ℕ) → List ℕ
field_line_of word separator fs = word ++ fields_text separator fs

-- rules 2.1 to 2.3: by its numbers
abbrev pub number_line_of : (word : List ℕ) (separator : ℕ) → List ℕ → List ℕ
number_line_of word separator xs = field_line_of word separator (map digits xs)
