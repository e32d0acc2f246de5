-- Writing back: the answer, and what the text buffer holds at return.
-- Assumes nothing.
use Rattle.std.specs.Prelude.{Result, List, [], ◌∷◌, ℕ, ◌/◌, ltb, length, get_or}
use Rattle.model.specs.declared.Refusal.{Refusal}
use Rattle.model.specs.Answers.{Outcome, refused, answered, ◌when◌, judged, outcome}
use Rattle.model.specs.Basics.{over}
use Rattle.model.specs.SurveyText.{survey_text, ordered}
use Rattle.model.specs.Survey.{neighbours_of, accepting}

-- rules 2.4 to 2.6: the text of a survey. m is half the last start
unfoldable pub text_of : (n : ℕ) (starts neighbours : List ℕ) → List ℕ
text_of n starts neighbours = survey_text n (get_or starts n 0 / 2) (ordered n (neighbours_of starts neighbours))

-- the answer, and what the text buffer holds at return (rule 10.11)
pub record AfterWriting : Type 0 where
  pub answer : Outcome ℕ
  pub buffer : List ℕ

-- what a call of the code returned and left (rule 10.11)
abbrev pub write_returned : Result ℕ Refusal → List ℕ → AfterWriting
write_returned r b = record { answer = outcome r; buffer = b }

-- rule 10.11: writing is refused with number k, and the buffer is not altered
abbrev pub refuse_writing : List ℕ → ℕ → AfterWriting
refuse_writing buffer k = record { answer = refused k; buffer = buffer }

-- rule 10.11: a text is written to the front of the buffer; refused 12 where the buffer is too short
unfoldable pub writing_of : Outcome (Unit {0}) → (text buffer : List ℕ) → AfterWriting
writing_of (refused k) text buffer = refuse_writing buffer k
writing_of (answered x) text buffer =
    judged (refuse_writing buffer) ((12 when ltb (length buffer) (length text)) ∷ [])
    (record { answer = answered (length text); buffer = over text buffer })

-- rule 10.11: refused as acceptance refuses; else the survey's text is written
unfoldable pub writing : (n : ℕ) (starts neighbours buffer : List ℕ) → AfterWriting
writing n starts neighbours buffer = writing_of (accepting n starts neighbours) (text_of n starts neighbours) buffer
