-- Asking a pair. Nothing is written.
-- Assumes nothing.
use Rattle.std.specs.Prelude.{List, [], ◌∷◌, ℕ, length}
use Rattle.model.specs.declared.Answer.{Answer}
use Rattle.model.specs.Answers.{Outcome, refused, Refusals, ◌when◌, judged}
use Rattle.model.specs.Survey.{bad_size}
use Rattle.model.specs.Tables.{short_tables}
use Rattle.model.specs.Pair.{bad_pair, pair}

-- rule 10.8: the refusals in their order, up to 10
abbrev pub ask_refusals : (n : ℕ) (full low report : List ℕ) (a b : ℕ) → Refusals
ask_refusals n full low report a b =
    (2 when bad_size n)
    ∷ (8 when short_tables n (length full) (length low) (length report))
    ∷ (10 when bad_pair n a b)
    ∷ []

-- rule 10.8: refused, or `pair`, which is the rest of the rule: the answer that the tables give, or 11
unfoldable pub asking : (n : ℕ) (full low report : List ℕ) (a b : ℕ) → Outcome Answer
asking n full low report a b = judged refused (ask_refusals n full low report a b) (pair n full low report a b)
