-- The line of a text at which reading or importing it stops. Bytes: 10 is the line feed, 83 the letter S.
-- Assumes nothing.
use Rattle.std.specs.Prelude.{◌≡◌, ◌⊎◌, List, [], ◌∷◌, ℕ, zero, suc, ◌+◌, ◌-◌, ◌≤◌, ◌<◌, eqb, length}
use Rattle.model.specs.Answers.{Outcome, refused, answered}
use Rattle.model.specs.Basics.{keep}
use Rattle.std.specs.Prelude.{if◌then◌else◌}
use Rattle.model.specs.Lines.{split, two_line}
use Rattle.model.specs.SurveyText.{line}
use Rattle.model.specs.Reading.{counts_of, named}
use Rattle.model.specs.Dimacs.{is_comment, uncommented, head_word, edge_word, head_of, edge_of}
use Rattle.survey_reading_lines.specs.LinesRead.{link_in}

-- what `go` makes of the value, or `stop` where it is refused
abbrev pub stop_or : {A B : Type 0} → B → (A → B) → Outcome A → B
stop_or stop go (refused k) = stop
stop_or stop go (answered x) = go x

-- the count of nodes that a first line gives, 0 where it is refused
abbrev pub nodes_in : Outcome (ℕ × ℕ × List ℕ) → ℕ
nodes_in o = stop_or 0 (λ f. f.0) o

-- the line feeds of a text
unfoldable pub line_feeds : List ℕ → ℕ
line_feeds text = length (keep (eqb 10) text)

-- how many lines of a text come before the rest of it
abbrev pub lines_before : (text rest : List ℕ) → ℕ
lines_before text rest = line_feeds text - line_feeds rest

-- the line that the rest of a text begins with, counted from 1
abbrev pub line_at : (text rest : List ℕ) → ℕ
line_at text rest = 1 + lines_before text rest

-- of m lines the first k are taken, which end where the rest of a text begins
pub record LinesTaken (m k : ℕ) (text rest : List ℕ) : Type 0 where
  pub few : k ≤ m
  pub feeds : k + line_feeds rest ≡ line_feeds text

-- what the next line of a text says after the links `done`, of which the last comes first in the list
abbrev pub Next : Type 0
Next = (done : List (ℕ × ℕ)) → List ℕ → Outcome (ℕ × ℕ × List ℕ)

-- one line of a text after another is taken, each after the links of those before it, up to the rest of the text
pub data Taken (next : Next) (text : List ℕ) : (done : List (ℕ × ℕ)) (rest : List ℕ) → Type 0 where
  start : Taken next text [] text
  on : {done : List (ℕ × ℕ)} {t rest : List ℕ} {a b : ℕ} → Taken next text done t → next done t ≡ answered (a, b, rest)
      → Taken next text ((a, b) ∷ done) rest

-- the refusal k of m lines is about the line that the rest of a text begins with: all lines before it are taken. Either these are fewer than
-- m, and the line is refused with k; or they are all m, and the text goes on, of which k is the refusal
pub record Stopped (next : Next) (goesOn m : ℕ) (text rest : List ℕ) (k : ℕ) : Type 0 where
  pub done : List (ℕ × ℕ)
  pub before : Taken next text done rest
  pub why : ((length done < m) × (next done rest ≡ refused k)) ⊎ ((length done ≡ m) × (rest ≡ [] → ⊥) × (k ≡ goesOn))

-- the refusal k of a whole text is about the line that the rest of it begins with: its first line, or one of the lines behind that, by what
-- the first line says
abbrev pub Refused : (first : Outcome (ℕ × ℕ × List ℕ)) (next : (n : ℕ) → Next) (goesOn : ℕ) (text rest : List ℕ) (k : ℕ) → Type 0
Refused first next goesOn text rest k =
    ((first ≡ refused k) × (rest ≡ text))
    ⊎ ((f : ℕ × ℕ × List ℕ) × (first ≡ answered f) × Stopped (next f.0) goesOn f.1 f.2 rest k)

-- ---- a survey text

-- what its first line says, read into the longest lists
abbrev pub first_says : (most_nodes most_links : ℕ) → List ℕ → Outcome (ℕ × ℕ × List ℕ)
first_says most_nodes most_links text = counts_of most_nodes most_links 1025 32768 (line 83 text)

-- after the links `done`, a text from the first of m link lines on that is refused; what is behind the last where all are taken
unfoldable pub links_stop : (n m : ℕ) (done : List (ℕ × ℕ)) → List ℕ → List ℕ
links_stop n zero done text = text
links_stop n (suc m) done text = stop_or text (λ l. links_stop n m ((l.0, l.1) ∷ done) l.2) (link_in n (named done) text)

-- the text from the line on at which reading stops
unfoldable pub read_stop : (most_nodes most_links : ℕ) → List ℕ → List ℕ
read_stop most_nodes most_links text = stop_or text (λ f. links_stop f.0 f.1 [] f.2) (first_says most_nodes most_links text)

-- what the next link line says
abbrev pub next_link : (n : ℕ) → Next
next_link n done t = link_in n (named done) t

-- the refusal k of a text is about the line at which reading it stops
abbrev pub ReadRefused : (most_nodes most_links : ℕ) (text : List ℕ) (k : ℕ) → Type 0
ReadRefused most_nodes most_links text k = Refused (first_says most_nodes most_links text) next_link 7 text (read_stop most_nodes most_links text) k

-- ---- a file

-- what the first line of a file without comments says, read into the longest lists
abbrev pub head_says : List ℕ → Outcome (ℕ × ℕ × List ℕ)
head_says text = head_of 1025 32768 (two_line head_word 32 text)

-- a text without comments from the first of m edge lines on that is refused; what is behind the last where all are taken
unfoldable pub edges_stop : (n m : ℕ) → List ℕ → List ℕ
edges_stop n zero text = text
edges_stop n (suc m) text = stop_or text (λ l. edges_stop n m l.2) (edge_of n (two_line edge_word 32 text))

-- a file without comments from the line on at which importing stops
unfoldable pub file_stop : List ℕ → List ℕ
file_stop text = stop_or text (λ f. edges_stop f.0 f.1 f.2) (head_says text)

-- what the next edge line says, whichever links come before it
abbrev pub next_edge : (n : ℕ) → Next
next_edge n done t = edge_of n (two_line edge_word 32 t)

-- the refusal k of a file without comments is about the line at which importing it stops
abbrev pub FileRefused : (text : List ℕ) (k : ℕ) → Type 0
FileRefused text k = Refused (head_says text) next_edge 13 text (file_stop text) k

-- the line of a file, counted from 1, that comes after k lines that are no comments, and after the comments behind them. What comes after
-- the last line feed is no comment
unfoldable pub kept_line : (k : ℕ) (lines : List (List ℕ)) → ℕ
kept_line k [] = 1
kept_line k (l ∷ []) = 1
kept_line zero (l ∷ j ∷ ls) = let r = kept_line zero (j ∷ ls) in if is_comment l then 1 + r else 1
kept_line (suc k) (l ∷ j ∷ ls) =
    let comment = kept_line (suc k) (j ∷ ls) in
    let kept = kept_line k (j ∷ ls) in
    1 + (if is_comment l then comment else kept)

-- the line of a file at which importing stops: as many lines that are no comments come before it as are taken of the file without comments
unfoldable pub file_line : List ℕ → ℕ
file_line text = let kept = uncommented text in kept_line (lines_before kept (file_stop kept)) (split 10 text)
