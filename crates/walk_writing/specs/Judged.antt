-- A pair that was judged.
-- Assumes nothing.
use Rattle.std.specs.Prelude.{◌≡◌, List, ℕ}
use Rattle.model.specs.declared.Answer.{Answer}
use Rattle.walk_writing.specs.declared.Pair.{Pair}

abbrev pub answer_of : Pair → Answer
answer_of pair = pair.answer

-- the pair is a and b, and its survey and tables are these lists, of n nodes
pub record IsJudged (pair : Pair) (n : ℕ) (starts neighbours full low : List ℕ) (a b : ℕ) : Type 0 where
  pub nodes : pair.survey.n ≡ n
  pub in_starts : pair.survey.starts.now ≡ starts
  pub in_neighbours : pair.survey.neighbours.now ≡ neighbours
  pub in_full : pair.tables.full.now ≡ full
  pub in_low : pair.tables.low.now ≡ low
  pub first : pair.a ≡ a
  pub last : pair.b ≡ b
