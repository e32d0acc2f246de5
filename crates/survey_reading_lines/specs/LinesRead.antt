-- What the first line says, the links read so far as a bit matrix, and what the next line makes of them.
-- Assumes nothing.
use Rattle.std.specs.Prelude.{Result, Ok, Err, Bool, List, [], ◌∷◌, ◌≡◌, ℕ, ◌<◌, length, drop}
use Rattle.model.specs.Answers.{Outcome, refused, answered, number}
use Rattle.model.specs.declared.Refusal.{Refusal}
use Rattle.model.specs.SurveyText.{line}
use Rattle.model.specs.Reading.{named, link_of}
use Rattle.base_nodeset.specs.Matrix.{edges_in}
use Rattle.text_reading.specs.declared.Pair.{Pair}

-- a matrix with exactly these links
pub record Holds (ws : List ℕ) (ls : List (ℕ × ℕ)) : Type 0 where
  pub long : length ws ≡ 16384
  pub says : (a b : ℕ) → a < 1024 → b < 1024 → edges_in ws a b ≡ named ls a b

-- what the next line says after the links of E, in a text that may be at its end
unfoldable pub link_in : ℕ → (ℕ → ℕ → Bool) → List ℕ → Outcome (ℕ × ℕ × List ℕ)
link_in n E [] = refused 7
link_in n E (c ∷ text) = link_of n E (line 76 (c ∷ text))

-- what a line of the text s says: its two numbers and the text behind it, or a refusal
abbrev pub line_answer : List ℕ → Result (Pair ℕ) Refusal → Outcome (ℕ × ℕ × List ℕ)
line_answer s (Ok p) = answered (p.a, p.b, drop p.end s)
line_answer s (Err r) = refused (number r)

-- the link lines were read into the matrix, or refused
abbrev pub Told : Outcome (List (ℕ × ℕ)) → Result ℕ Refusal → List ℕ → Type 0
Told (answered ls) r ws = (r ≡ Ok (length ls)) × Holds ws ls
Told (refused k) (Err r) ws = number r ≡ k
Told (refused k) (Ok m) ws = ⊥
