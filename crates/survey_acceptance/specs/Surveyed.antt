-- The survey that two lists are, if they are one's.
-- Assumes nothing.
use Rattle.std.specs.Prelude.{◌≡◌, true, false, List, ℕ, Option, Some, None}
use Rattle.model.specs.Survey.{is_survey}
use Rattle.survey_neighbours.specs.declared.Survey.{Survey}

-- none where the lists are no survey's; where they are, the survey of n and these lists
abbrev pub Surveyed : (n : ℕ) (starts neighbours : List ℕ) → Option Survey → Type 0
Surveyed n starts neighbours None = is_survey n starts neighbours ≡ false
Surveyed n starts neighbours (Some survey) =
    (is_survey n starts neighbours ≡ true)
    × (survey.n ≡ n) × (survey.starts.now ≡ starts) × (survey.neighbours.now ≡ neighbours)
