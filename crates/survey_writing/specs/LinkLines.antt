-- A survey's lines in each form of text, of which a first line and the line of a link are given.
-- Assumes nothing.
use Rattle.std.specs.Prelude.{List, ◌++◌, ℕ, ◌/◌, ltb, get_or}
use Rattle.model.specs.Basics.{up_to, keep, gather}
use Rattle.model.specs.Survey.{neighbours_of}

-- the lines of node a's links to the larger nodes of a list
unfoldable pub lines_of : (link_line : ℕ → ℕ → List ℕ) → (a : ℕ) → List ℕ → List ℕ
lines_of link_line a row = gather (λ b. link_line a b) (keep (λ b. ltb a b) row)

-- the text of a survey: the first line, of n nodes and m links, then the lines of each node
unfoldable pub text_as : (first_line link_line : ℕ → ℕ → List ℕ) → (n : ℕ) (starts neighbours : List ℕ) → List ℕ
text_as first_line link_line n starts neighbours =
    first_line n (get_or starts n 0 / 2) ++ gather (λ a. lines_of link_line a (neighbours_of starts neighbours a)) (up_to n)
