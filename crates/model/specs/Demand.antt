-- What the calls' answers mean, in terms of chains alone: section 9 of the rules, for a graph with the links E.
-- Assumes nothing.
use Rattle.std.specs.Prelude.{◌≡◌, ◌⊎◌, ◌↔◌, List, ◌++◌, ℕ, ◌+◌, ◌-◌, ◌/◌, ◌≤◌, ◌<◌, T, leb, length, get_or, take, replicate}
use Rattle.model.specs.declared.Route.TheVariants.{Link}
use Rattle.model.specs.declared.Answer.{Answer}
use Rattle.model.specs.declared.TestResult.{TestResult}
use Rattle.model.specs.declared.Verdict.{Verdict}
use Rattle.model.specs.declared.Verdict.TheVariants.{Parted, Long, Short}
use Rattle.model.specs.Answers.{Outcome, answered}
use Rattle.model.specs.Basics.{none, over, gather}
use Rattle.std.specs.Prelude.{if◌then◌else◌}
use Rattle.model.specs.Graph.{Edges, linked, Chain, Unjoined, Fewest, WithinTwo, Walked}
use Rattle.model.specs.declared.Size.{Size}
use Rattle.model.specs.SurveyText.{line_of, survey_text}
use Rattle.model.specs.Survey.{neighbours_of, Accepted}
use Rattle.model.specs.Threshold.{in_force}
use Rattle.model.specs.Hubs.{hubs}
use Rattle.model.specs.Tables.{AreBuilt, AreBuiltWith}
use Rattle.model.specs.Pair.{with_route}
use Rattle.model.specs.Reading.{named, AfterReading, reading}
use Rattle.model.specs.Writing.{AfterWriting}
use Rattle.model.specs.Building.{AfterBuilding}
use Rattle.model.specs.Asking.{asking}
use Rattle.model.specs.Walking.{AfterWalking, walking}
use Rattle.model.specs.Listing.{pair_line, pairs_below}

-- rules 8.1 and 9.3: a text that was read gives an accepted survey, whose links are exactly those that its lines name
pub record IsRead (text : List ℕ) (x : Size) (starts neighbours : List ℕ) : Type 0 where
  pub survey : Accepted x.nodes starts neighbours
  pub links : List (ℕ × ℕ)
  pub count : length links ≡ x.links
  pub lines : text ≡ survey_text x.nodes x.links links
  pub exactly : (a b : ℕ) → linked x.nodes (neighbours_of starts neighbours) a b ≡ named links a b

-- the same of what reading answers and leaves, where it is not refused (rules 8.1 and 9.3)
abbrev pub ReadRight : List ℕ → AfterReading → Type 0
ReadRight text r = (x : Size) → r.answer ≡ answered x → IsRead text x r.starts r.neighbours

-- a survey as reading leaves it in lists of p and q entries (rule 10.5): the answer n and m, the entries used, and zero past them
unfoldable pub as_read : (n : ℕ) (starts neighbours : List ℕ) (p q : ℕ) → AfterReading
as_read n starts neighbours p q = record {
  answer = answered (record { nodes = n; links = get_or starts n 0 / 2 });
  starts = over (take (n + 1) starts) (replicate p 0);
  neighbours = over (take (get_or starts n 0) neighbours) (replicate q 0);
}

-- rule 9.2: the text that was written, of k bytes, is read back as the same survey, into any lists that are long enough
abbrev pub WriteRight : (n : ℕ) (starts neighbours : List ℕ) → AfterWriting → Type 0
WriteRight n starts neighbours r =
    (k : ℕ) → r.answer ≡ answered k → (p q : ℕ) → n + 1 ≤ p → get_or starts n 0 ≤ q
    → reading (take k r.buffer) p q ≡ as_read n starts neighbours p q

-- rule 5.6, of building that is not refused: the survey is accepted, the tables and the hub list are built from it with the threshold s, and
-- there are k hubs
pub record IsBuilt (n s : ℕ) (starts neighbours full low report list : List ℕ) (k : ℕ) : Type 0 where
  pub survey : Accepted n starts neighbours
  pub tables : AreBuiltWith n s (neighbours_of starts neighbours) full low report list
  pub count : k ≡ length (hubs n s (neighbours_of starts neighbours))

-- the same of what building answers and leaves, where the caller gives the threshold t (rule 5.6)
abbrev pub BuildRight : (n t : ℕ) (starts neighbours : List ℕ) → AfterBuilding → Type 0
BuildRight n t starts neighbours r =
    (k : ℕ) → r.answer ≡ answered k → IsBuilt n (in_force n t) starts neighbours r.full r.low r.report r.hubs k

-- rule 9.4: a report is none exactly where no chain joins the pair; else at least the fewest links, and at most two more
pub record Allowed (E : Edges) (a b r : ℕ) : Type 0 where
  pub no_route : (r ≡ none) ↔ Unjoined E a b
  pub near : (d : ℕ) → Fewest E a b d → (d ≤ r) × (r ≤ d + 2)

-- rule 9.7: the least that a report leaves open: one of at most 2 is the fewest links; from 3 on no fewer than two less, and no fewer than 2
unfoldable pub least_needed : ℕ → ℕ
least_needed r = if leb r 2 then r else if leb r 4 then 2 else r - 2

-- rules 9.4 and 9.7: asking is not refused, its report is allowed, it is 1 by the link exactly where the two are linked, and no fewer links
-- are needed than it leaves open
pub record AllowedAnswer (E : Edges) (a b : ℕ) (o : Outcome Answer) : Type 0 where
  pub value : Answer
  pub given : o ≡ answered value
  pub allowed : Allowed E a b value.report
  pub by_link_iff : (value ≡ with_route 1 Link) ↔ T (E a b)
  pub least : (d : ℕ) → Fewest E a b d → least_needed value.report ≤ d

-- rule 9.4, for every accepted survey, tables built from it with any threshold s, and two nodes below n
abbrev pub AskRight : (n : ℕ) (full low report : List ℕ) (a b : ℕ) → Outcome Answer → Type 0
AskRight n full low report a b o =
    (s : ℕ) (starts neighbours : List ℕ) → Accepted n starts neighbours → AreBuilt n s (neighbours_of starts neighbours) full low report
    → a < n → b < n → AllowedAnswer (linked n (neighbours_of starts neighbours)) a b o

-- rule 9.5: writing the walk into a list of w entries answers as asking does, if the list is long enough
abbrev pub WalkAnswers : ℕ → Outcome Answer → AfterWalking → Type 0
WalkAnswers w o r = (x : Answer) → o ≡ answered x → (x.report ≡ none) ⊎ (x.report < w) → r.answer ≡ answered x

-- rule 9.5: the first r + 1 entries are a chain of r links, from a to b
pub record IsWalk (E : Edges) (a b r : ℕ) (list : List ℕ) : Type 0 where
  pub walked : Walked E (take (r + 1) list) a b
  pub count : length (take (r + 1) list) ≡ r + 1
  pub chain : Chain E r a b

-- rule 9.5: a walk that is given out is a walk of exactly the reported length, whatever the tables hold
abbrev pub WalkSound : Edges → (a b : ℕ) → AfterWalking → Type 0
WalkSound E a b r = (x : Answer) → r.answer ≡ answered x → (x.report ≡ none → ⊥) → IsWalk E a b x.report r.walk

-- rules 9.4 and 9.5, for an accepted survey, every threshold t that is not refused, tables built with it, and two nodes below n. r is what
-- writing the walk into a list of w entries answers and leaves
abbrev pub WalkRight : (n t : ℕ) (starts neighbours full low report : List ℕ) (a b w : ℕ) → AfterWalking → Type 0
WalkRight n t starts neighbours full low report a b w r =
    Accepted n starts neighbours → t ≤ 1024 → AreBuilt n (in_force n t) (neighbours_of starts neighbours) full low report → a < n → b < n
    → AllowedAnswer (linked n (neighbours_of starts neighbours)) a b (asking n full low report a b)
    × WalkAnswers w (asking n full low report a b) r

-- rule 9.6: parted exactly when some two nodes are not joined; never short where some two are four or more apart; never long where all are
-- within two
pub record VerdictRight (n : ℕ) (E : Edges) (v : Verdict) : Type 0 where
  pub parted : (v ≡ Parted) ↔ ((a : ℕ) × (b : ℕ) × (a < n) × (b < n) × Unjoined E a b)
  pub not_short : (a b d : ℕ) → a < n → b < n → Fewest E a b d → 4 ≤ d → v ≡ Short → ⊥
  pub not_long : ((a b : ℕ) → a < n → b < n → WithinTwo E a b) → v ≡ Long → ⊥

-- rule 9.6: a test that is not refused, with a right verdict
pub record RightVerdict (n : ℕ) (E : Edges) (o : Outcome TestResult) : Type 0 where
  pub value : TestResult
  pub given : o ≡ answered value
  pub right : VerdictRight n E value.verdict

-- rule 9.6, for every accepted survey and every threshold t that is not refused
abbrev pub TestRight : (n t : ℕ) (starts neighbours : List ℕ) → Outcome TestResult → Type 0
TestRight n t starts neighbours o = Accepted n starts neighbours → t ≤ 1024 → RightVerdict n (linked n (neighbours_of starts neighbours)) o

-- rules 9.4 and 11.1: a listing is its first line, with the counts of nodes and hubs, and for each two nodes in order a line with an allowed
-- report, which is 1 by the link exactly where the two are linked
pub record RightListing (n hubCount : ℕ) (E : Edges) (text : List ℕ) : Type 0 where
  pub value : (a b : ℕ) → Answer
  pub lines : text ≡ line_of 82 n hubCount ++ gather (λ p. pair_line p (answered (value p.0 p.1))) (pairs_below n)
  pub allowed : (a b : ℕ) → a < n → b < n → Allowed E a b (value a b).report
  pub by_link_iff : (a b : ℕ) → a < n → b < n → (a ≡ b → ⊥) → (value a b ≡ with_route 1 Link) ↔ T (E a b)

-- ---- the whole way: a text is read into two lists, tables are built from these with a threshold, two nodes are asked, and their walk is
-- written with the same threshold

-- rules 9.3 to 9.5 at once. x, starts and neighbours are what reading answers and leaves, t is the threshold that building and walking are
-- given, and made is what building leaves
pub record WholeWay (text : List ℕ) (x : Size) (starts neighbours : List ℕ) (t : ℕ) (made : AfterBuilding) (a b : ℕ) : Type 0 where
  -- the links that the text's lines name
  pub links : List (ℕ × ℕ)
  pub as_many : length links ≡ x.links
  pub lines : text ≡ survey_text x.nodes x.links links
  -- building and asking are not refused, and the report is allowed over those links, 1 by link exactly where one of them joins the two, and
  -- no fewer links are needed than it leaves open
  pub count : ℕ
  pub builds : made.answer ≡ answered count
  pub value : Answer
  pub asked : asking x.nodes made.full made.low made.report a b ≡ answered value
  pub allowed : Allowed (named links) a b value.report
  pub by_link_iff : (value ≡ with_route 1 Link) ↔ T (named links a b)
  pub least : (d : ℕ) → Fewest (named links) a b d → least_needed value.report ≤ d
  -- in every list that is long enough the walk is answered the same, and is a walk along those links
  pub walked : (w : ℕ) → (value.report ≡ none) ⊎ (value.report < w)
      → ((walking x.nodes t starts neighbours made.full made.low made.report a b w).answer ≡ answered value)
      × ((value.report ≡ none → ⊥)
      → IsWalk (named links) a b value.report (walking x.nodes t starts neighbours made.full made.low made.report a b w).walk)
