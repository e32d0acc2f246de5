-- What is said of a survey, by the answers that the rules give (docs/COMMANDS.md).
-- Assumes nothing.
use Rattle.std.specs.Prelude.{List, [], ◌++◌, ℕ, ◌+◌, eqb, leb, length, take}
use Rattle.model.specs.declared.Answer.{Answer}
use Rattle.model.specs.declared.TestResult.{TestResult}
use Rattle.model.specs.Answers.{Outcome, refused, answered}
use Rattle.model.specs.Basics.{none, up_to, keep}
use Rattle.std.specs.Prelude.{if◌then◌else◌}
use Rattle.model.specs.Survey.{Graph, neighbours_of}
use Rattle.model.specs.Hubs.{is_high, hubs}
use Rattle.model.specs.Tables.{full_table, low_table, report_table}
use Rattle.model.specs.Asking.{asking}
use Rattle.model.specs.Walking.{AfterWalking, walking}
use Rattle.model.specs.Testing.{testing}
use Rattle.desk_sentences.specs.Sentences.{pair_lines, walk_line, verdict_lines, hubs_line, high_line}
use Rattle.desk_refusals.specs.Reasons.{node_refused, threshold_refused}

-- the node that is refused: a, unless it is below n
unfoldable pub far_node : (n a b : ℕ) → ℕ
far_node n a b = if leb n a then a else b

-- ---- pair: asked with the tables of rules 5.2 to 5.5

unfoldable pub asked_said : (n a b : ℕ) → Outcome Answer → List ℕ
asked_said n a b (refused k) = node_refused (far_node n a b) n
asked_said n a b (answered x) = pair_lines a b x

unfoldable pub pair_said : (n s : ℕ) → Graph → (a b : ℕ) → List ℕ
pair_said n s G a b = asked_said n a b (asking n (full_table n s G) (low_table n s G) (report_table n s G) a b)

-- ---- walk: with the same tables, into a list of 2,048 entries

-- the nodes of a walk of r links; no line where there is no route
unfoldable pub nodes_said : (r : ℕ) → List ℕ → List ℕ
nodes_said r walk = if eqb r none then [] else walk_line (take (r + 1) walk)

unfoldable pub walked_said : (n a b : ℕ) → Outcome Answer → List ℕ → List ℕ
walked_said n a b (refused k) walk = node_refused (far_node n a b) n
walked_said n a b (answered x) walk = pair_lines a b x ++ nodes_said x.report walk

unfoldable pub walk_said : (n t s : ℕ) (starts neighbours : List ℕ) (a b : ℕ) → List ℕ
walk_said n t s starts neighbours a b =
    let G : Graph = neighbours_of starts neighbours in
    let r : AfterWalking = walking n t starts neighbours (full_table n s G) (low_table n s G) (report_table n s G) a b 2048 in
    walked_said n a b r.answer r.walk

-- ---- test

unfoldable pub tested_said : (t : ℕ) → Outcome TestResult → List ℕ
tested_said t (refused k) = threshold_refused t
tested_said t (answered x) = verdict_lines x

unfoldable pub test_said : (n t : ℕ) (starts neighbours : List ℕ) → List ℕ
test_said n t starts neighbours = tested_said t (testing n t starts neighbours)

-- ---- hubs

unfoldable pub hubs_said : (n s : ℕ) → Graph → List ℕ
hubs_said n s G = hubs_line (hubs n s G) ++ high_line (length (keep (is_high s G) (up_to n))) n s
