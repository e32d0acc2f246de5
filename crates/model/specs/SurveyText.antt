-- The survey text: an edge list. Bytes: 44 is the comma, 76 the letter L and 83 the letter S.
-- Assumes nothing.
use Rattle.std.specs.Prelude.{List, [], ◌∷◌, ◌++◌, map, ℕ, ltb}
use Rattle.std.proofs.Math.Option.{Option}
use Rattle.model.specs.Basics.{up_to, keep, gather}
use Rattle.model.specs.Lines.{two_line, number_line_of}

-- rules 2.1 to 2.3: the line `letter,x,y` that a text begins with, as x, y and the text after it. Missing where the line has another form
-- or has no end
unfoldable pub line : ℕ → List ℕ → Option (ℕ × ℕ × List ℕ)
line letter text = two_line (letter ∷ []) 44 text

-- the text of such a line (rules 2.1 to 2.3)
unfoldable pub line_of : ℕ → ℕ → ℕ → List ℕ
line_of letter x y = number_line_of (letter ∷ []) 44 (x ∷ y ∷ [])

-- rule 2.5: a line for each link
unfoldable pub link_lines : List (ℕ × ℕ) → List ℕ
link_lines ls = gather (λ l. line_of 76 l.0 l.1) ls

-- rules 2.4 and 2.5: the first line, then the link lines
unfoldable pub survey_text : (n m : ℕ) → List (ℕ × ℕ) → List ℕ
survey_text n m ls = line_of 83 n m ++ link_lines ls

-- rule 2.6: the links of n nodes with the ascending neighbours G v, each with a < b, ascending by a, then by b
unfoldable pub ordered : ℕ → (ℕ → List ℕ) → List (ℕ × ℕ)
ordered n G = gather (λ a. map (λ b. (a, b)) (keep (λ b. ltb a b) (G a))) (up_to n)
