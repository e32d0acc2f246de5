-- Where the comments at a place end, and what a line of a file says.
-- Assumes nothing.
use Rattle.std.specs.Prelude.{Result, ◌≡◌, ◌⊎◌, false, List, ℕ, T, drop}
use Rattle.model.specs.Answers.{Outcome, map_answer}
use Rattle.model.specs.declared.Refusal.{Refusal}
use Rattle.model.specs.Basics.{has}
use Rattle.model.specs.Dimacs.{is_comment, uncommented}
use Rattle.survey_reading_lines.specs.LinesRead.{line_answer}
use Rattle.text_reading.specs.declared.Pair.{Pair}

-- between two places stand comments, and none that has its end comes next
pub record Passed (s : List ℕ) (at e : ℕ) : Type 0 where
  pub same : uncommented (drop e s) ≡ uncommented (drop at s)
  pub next : (is_comment (drop e s) ≡ false) ⊎ (T (has 10 (drop e s)) → ⊥)

-- two numbers of a line, and the text after it without its comments
abbrev pub without_comments : ℕ × ℕ × List ℕ → ℕ × ℕ × List ℕ
without_comments l = (l.0, l.1, uncommented l.2)

-- what a line of the file s says: its two numbers and the text after it, without its comments, or a refusal
abbrev pub file_answer : List ℕ → Result (Pair ℕ) Refusal → Outcome (ℕ × ℕ × List ℕ)
file_answer s w = map_answer without_comments (line_answer s w)
