-- What the lines of an answer mean, in terms of chains alone: those of a pair, of its walk and of the test, for a graph with the links E.
-- Assumes nothing.
use Rattle.std.specs.Prelude.{◌≡◌, List, ◌++◌, ℕ}
use Rattle.model.specs.declared.Answer.{Answer}
use Rattle.model.specs.declared.TestResult.{TestResult}
use Rattle.model.specs.Answers.{answered}
use Rattle.model.specs.Basics.{none}
use Rattle.model.specs.Graph.{Edges}
use Rattle.model.specs.Demand.{AllowedAnswer, IsWalk, VerdictRight}
use Rattle.desk_sentences.specs.Sentences.{pair_lines, verdict_lines}
use Rattle.desk_answers.specs.Said.{nodes_said}

-- the report is none exactly where no chain joins the two, else from the fewest links to two more; and no fewer links are needed than is said
pub record RightPair (E : Edges) (a b : ℕ) (said : List ℕ) : Type 0 where
  pub value : Answer
  pub lines : said ≡ pair_lines a b value
  pub right : AllowedAnswer E a b (answered value)

-- and the nodes are a chain of as many links as reported, from a to b
pub record RightWalk (E : Edges) (a b : ℕ) (said : List ℕ) : Type 0 where
  pub value : Answer
  pub walk : List ℕ
  pub lines : said ≡ pair_lines a b value ++ nodes_said value.report walk
  pub right : AllowedAnswer E a b (answered value)
  pub walked : (value.report ≡ none → ⊥) → IsWalk E a b value.report walk

-- parted exactly where some two nodes are joined by no chain; never short where some two are four or more apart; never long where all are
-- within two
pub record RightTest (n : ℕ) (E : Edges) (said : List ℕ) : Type 0 where
  pub value : TestResult
  pub lines : said ≡ verdict_lines value
  pub right : VerdictRight n E value.verdict
