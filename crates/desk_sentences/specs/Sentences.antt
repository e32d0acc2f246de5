-- What is answered at the desk, line by line, as docs/COMMANDS.md gives it.
-- Assumes nothing.
use Rattle.std.specs.Prelude.{List, [], ◌∷◌, ◌++◌, ℕ, eqb, leb, length}
use Rattle.model.specs.declared.Route.{Route}
use Rattle.model.specs.declared.Route.TheVariants.{Itself, Low, Through, NoRoute, Link}
use Rattle.model.specs.declared.Answer.{Answer}
use Rattle.model.specs.declared.Verdict.{Verdict}
use Rattle.model.specs.declared.Verdict.TheVariants.{Parted, Long, Short}
use Rattle.model.specs.declared.TestResult.{TestResult}
use Rattle.model.specs.Basics.{none, gather, bytes}
use Rattle.std.specs.Prelude.{if◌then◌else◌}
use Rattle.model.specs.Numbers.{digits}
use Rattle.model.specs.Demand.{least_needed}

-- a sentence by its form, in which each `#` (byte 35) stands for the next of the numbers
unfoldable pub sentence : (form xs : List ℕ) → List ℕ
sentence form [] = form
sentence [] (x ∷ xs) = []
sentence (c ∷ form) (x ∷ xs) = if eqb c 35 then digits x ++ sentence form xs else c ∷ sentence form (x ∷ xs)

-- a count of one, or by the form for others
unfoldable pub counted : (k : ℕ) (one others : List ℕ) → List ℕ
counted k one others = if eqb k 1 then one else sentence others (k ∷ [])

-- nodes, a space in front of each, and the line feed
unfoldable pub nodes_end : List ℕ → List ℕ
nodes_end vs = gather (λ v. 32 ∷ digits v) vs ++ bytes "\n"

-- ---- a pair: its report and how it is attained, and what the report says

unfoldable pub report_line : (a b r : ℕ) → Route → List ℕ
report_line a b r Itself = sentence (bytes "nodes # and # report # by itself\n") (a ∷ b ∷ r ∷ [])
report_line a b r Low = sentence (bytes "nodes # and # report # by low nodes\n") (a ∷ b ∷ r ∷ [])
report_line a b r (Through h) = sentence (bytes "nodes # and # report # by hub #\n") (a ∷ b ∷ r ∷ h ∷ [])
report_line a b r NoRoute = sentence (bytes "nodes # and # report no route\n") (a ∷ b ∷ [])
report_line a b r Link = sentence (bytes "nodes # and # report # by link\n") (a ∷ b ∷ r ∷ [])

unfoldable pub needed_line : ℕ → List ℕ
needed_line r =
    if eqb r none then bytes "no chain of links joins them\n"
    else if eqb r 1 then bytes "exactly 1 link is needed\n"
    else if leb r 2 then sentence (bytes "exactly # links are needed\n") (r ∷ [])
    else sentence (bytes "at least # and at most # links are needed\n") (least_needed r ∷ r ∷ [])

unfoldable pub pair_lines : (a b : ℕ) → Answer → List ℕ
pair_lines a b x = report_line a b x.report x.route ++ needed_line x.report

unfoldable pub walk_line : List ℕ → List ℕ
walk_line vs = bytes "walk" ++ nodes_end vs

-- ---- the test: the verdict with the count of searches, and what the verdict says

unfoldable pub verdict_word : Verdict → List ℕ
verdict_word Parted = bytes "parted"
verdict_word Long = bytes "long"
verdict_word Short = bytes "short"

abbrev pub searches_end : ℕ → List ℕ
searches_end k = counted k (bytes " after 1 search\n") (bytes " after # searches\n")

unfoldable pub verdict_says : Verdict → List ℕ
verdict_says Parted = bytes "some two nodes are joined by no chain of links\n"
verdict_says Long = bytes "every two nodes are joined, and some two are 3 or more links apart\n"
verdict_says Short = bytes "every two nodes are at most 3 links apart\n"

unfoldable pub verdict_lines : TestResult → List ℕ
verdict_lines x = verdict_word x.verdict ++ (searches_end x.searches ++ verdict_says x.verdict)

-- ---- the hubs in the order chosen, and how many of n nodes are high by threshold s

unfoldable pub hubs_line : List ℕ → List ℕ
hubs_line [] = bytes "0 hubs\n"
hubs_line (h ∷ hs) = counted (length (h ∷ hs)) (bytes "1 hub:") (bytes "# hubs:") ++ nodes_end (h ∷ hs)

unfoldable pub high_line : (high n s : ℕ) → List ℕ
high_line high n s = sentence (bytes "high nodes # of # with # or more neighbours\n") (high ∷ n ∷ s ∷ [])

-- ---- a survey that is accepted

unfoldable pub accepted_line : (n m : ℕ) → List ℕ
accepted_line n m = sentence (bytes "accepted nodes # links #\n") (n ∷ m ∷ [])
