-- Testing: the two-or-four test of lent lists.
-- Assumes nothing.
use Rattle.std.specs.Prelude.{not, List, [], ◌∷◌, ℕ, length}
use Rattle.model.specs.declared.TestResult.{TestResult}
use Rattle.model.specs.Answers.{Outcome, refused, answered, Refusals, ◌when◌, judged}
use Rattle.model.specs.Survey.{neighbours_of, bad_size, short_starts, is_survey}
use Rattle.model.specs.Threshold.{in_force, bad_threshold}
use Rattle.model.specs.TwoOrFour.{test_result}

-- rule 10.10: the refusals in their order
abbrev pub test_refusals : (n t : ℕ) (starts neighbours : List ℕ) → Refusals
test_refusals n t starts neighbours =
    (2 when bad_size n)
    ∷ (14 when bad_threshold t)
    ∷ (8 when short_starts n (length starts))
    ∷ (9 when not (is_survey n starts neighbours))
    ∷ []

-- rule 10.10: refused, or the test with the threshold in force where the caller gives t
unfoldable pub testing : (n t : ℕ) (starts neighbours : List ℕ) → Outcome TestResult
testing n t starts neighbours =
    judged refused (test_refusals n t starts neighbours) (answered (test_result n (in_force n t) (neighbours_of starts neighbours)))
