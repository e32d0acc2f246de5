-- The starred cases as one table, which antt computes: what is asked, and what has to be answered. A survey is given by its literal text,
-- and each case goes through the definitions that the contracts cite: reading, building, asking a pair, writing a walk, testing.
-- Assumes nothing.
use mathlib.Core.Path.{◌≡◌, refl}
use mathlib.Core.List.{List, [], ◌∷◌, ◌++◌, map}
use mathlib.Core.Option.{bind}
use Prim.Native.Nat.{ℕ, ◌*◌}
use Prim.Native.String.{String}
use lib.ListN.{replicate}
use Rattle.model.specs.declared.Size.{Size}
use Rattle.model.specs.declared.Route.TheVariants.{Itself, Low, Through, Link}
use Rattle.model.specs.declared.Answer.{Answer}
use Rattle.model.specs.declared.TestResult.{TestResult}
use Rattle.model.specs.declared.Verdict.TheVariants.{Long, Short}
use Rattle.model.specs.Answers.{Outcome, refused, answered}
use Rattle.model.specs.Basics.{none, from, up_to, has, any, all, keep, first_of, gather, same, over, bytes}
use Rattle.model.specs.Numbers.{is_digit, is_number, value_from, value_of, digits_within, digits}
use Rattle.model.specs.Lines.{on_first, split, on_front, cut, behind, after_empty, fields_behind, field_line}
use Rattle.model.specs.Lines.{numbers_in, number_line, two_line}
use Rattle.model.specs.SurveyText.{line, line_of, ordered}
use Rattle.model.specs.Survey.{Graph, neighbours_of, ascending, bad_size, is_survey, accepting}
use Rattle.model.specs.Threshold.{bit_length, threshold, in_force, bad_threshold}
use Rattle.model.specs.Hubs.{is_high, is_low, closed, gain, best, greedy, hubs}
use Rattle.model.specs.Graph.{reach, fewest, linked}
use Rattle.model.specs.Tables.{rows_of, table, entry_at, full_table, low_links, low_table, sum, via, report_table, hub_list}
use Rattle.model.specs.Pair.{with_route, taken, attaining, choose, pair_by, pair}
use Rattle.model.specs.Walk.{before, next, steps, by_low, to_hub, join, by_link, walk_nodes}
use Rattle.model.specs.TwoOrFour.{sources, verdict_of, test_result}
use Rattle.model.specs.Reading.{named, on_links, link_of, read_on, read_links, parsed, limits_of, counts_of, parse_links, parse}
use Rattle.model.specs.Reading.{graph_of, starts_of, neighbours_from, AfterReading, reading_of, reading}
use Rattle.model.specs.Building.{AfterBuilding, built, building}
use Rattle.model.specs.Asking.{asking}
use Rattle.model.specs.Walking.{AfterWalking, refuse_walk, fit, walk_of, walking}
use Rattle.model.specs.Testing.{testing}
use Rattle.model.specs.Listing.{report_text, route_text, pair_line, pairs_below, pair_lines, listing_of, listing_text, listing}

course : String
course = "S,6,6\nL,0,5\nL,1,5\nL,2,5\nL,3,5\nL,4,5\nL,1,2\n"

course_listing : List ℕ
course_listing =
    bytes "R,6,1\nP,0,1,2,0\nP,0,2,2,0\nP,0,3,2,0\nP,0,4,2,0\nP,0,5,1,link\nP,1,2,1,link\nP,1,3,4,0\nP,1,4,4,0\n"
    ++ bytes "P,1,5,1,link\nP,2,3,4,0\nP,2,4,4,0\nP,2,5,1,link\nP,3,4,4,0\nP,3,5,1,link\nP,4,5,1,link\n"

single : String
single = "S,1,0\n"

chain : String
chain = "S,5,4\nL,0,1\nL,1,2\nL,2,3\nL,3,4\n"

triangle : String
triangle = "S,5,5\nL,0,1\nL,0,2\nL,1,2\nL,1,3\nL,2,4\n"

-- what reading a text leaves, in lists of 8 and 16 entries, and what building from it with the threshold t leaves, in lists of none
lists : String → AfterReading
lists text = reading (bytes text) 8 16

nodes_in : Outcome Size → ℕ
nodes_in (refused k) = 0
nodes_in (answered x) = x.nodes

size : String → ℕ
size text = nodes_in (lists text).answer

graph : String → Graph
graph text = neighbours_of (lists text).starts (lists text).neighbours

tables : String → (t : ℕ) → AfterBuilding
tables text t =
    let n = size text in
    let blank = replicate (n * n) none in
    building n t (lists text).starts (lists text).neighbours blank blank blank (replicate n none)

-- what is asked: the threshold of n nodes; and where the caller gives the threshold t: a survey's high nodes, and its hub list; a pair's
-- answer; its walk in a list of w entries; the sum of its entries of Full through h; the test; and building, walking and testing with lists
-- that are all empty. Further, the fewest links between two nodes, and the listing
pub data Question : Type 0 where
  threshold_of : (n : ℕ) → Question
  high_nodes hubs_left : String → (t : ℕ) → Question
  ask : String → (t a b : ℕ) → Question
  walk : String → (t a b w : ℕ) → Question
  hub_sum : String → (t a b h : ℕ) → Question
  test : String → (t : ℕ) → Question
  build_empty walk_empty test_empty : (n t : ℕ) → Question
  apart : String → (a b : ℕ) → Question
  listing_asked : String → Question

pub data Reply : Type 0 where
  number : ℕ → Reply
  list : List ℕ → Reply
  counted : Outcome ℕ → Reply
  report : Outcome Answer → Reply
  walked : AfterWalking → Reply
  verdict : Outcome TestResult → Reply

pub reply : Question → Reply
reply (threshold_of n) = number (threshold n)
reply (high_nodes text t) = list (keep (is_high (in_force (size text) t) (graph text)) (up_to (size text)))
reply (hubs_left text t) = list (tables text t).hubs
reply (ask text t a b) = let made = tables text t in report (asking (size text) made.full made.low made.report a b)
reply (walk text t a b w) =
    let made = tables text t in
    walked (walking (size text) t (lists text).starts (lists text).neighbours made.full made.low made.report a b w)
reply (hub_sum text t a b h) = number (via (size text) (tables text t).full a b h)
reply (test text t) = verdict (testing (size text) t (lists text).starts (lists text).neighbours)
reply (build_empty n t) = counted (building n t [] [] [] [] [] []).answer
reply (walk_empty n t) = report (walking n t [] [] [] [] [] 0 0 0).answer
reply (test_empty n t) = verdict (testing n t [] [])
reply (apart text a b) = number (fewest (linked (size text) (graph text)) (size text) a b)
reply (listing_asked text) = list (listing (bytes text))

-- the cases in the rules' order. A walk's reply is its answer and the whole list at return
pub starred : List (Question × Reply)
starred =
    (threshold_of 1, number 1)
    ∷ (threshold_of 6, number 5)
    ∷ (threshold_of 100, number 27)
    ∷ (threshold_of 1023, number 102)
    ∷ (threshold_of 1024, number 107)
    ∷ (high_nodes course 0, list (5 ∷ []))
    ∷ (hubs_left course 0, list (0 ∷ none ∷ none ∷ none ∷ none ∷ none ∷ []))
    ∷ (ask course 0 1 3, report (answered (with_route 4 (Through 0))))
    ∷ (walk course 0 1 3 5, walked (record { answer = answered (with_route 4 (Through 0)); walk = 1 ∷ 5 ∷ 0 ∷ 5 ∷ 3 ∷ [] }))
    ∷ (
      walk course 0 1 3 8,
      walked (record { answer = answered (with_route 4 (Through 0)); walk = 1 ∷ 5 ∷ 0 ∷ 5 ∷ 3 ∷ none ∷ none ∷ none ∷ [] }),
    )
    ∷ (ask course 0 5 5, report (answered (with_route 0 Itself)))
    ∷ (hub_sum course 0 5 5 0, number 2)
    ∷ (test single 0, verdict (answered (record { verdict = Short; searches = 1 })))
    ∷ (test chain 0, verdict (answered (record { verdict = Long; searches = 2 })))
    ∷ (test triangle 0, verdict (answered (record { verdict = Short; searches = 3 })))
    ∷ (apart triangle 3 4, number 3)
    ∷ (walk course 0 5 3 3, walked (record { answer = answered (with_route 1 Link); walk = 5 ∷ 3 ∷ none ∷ [] }))
    ∷ (listing_asked course, list course_listing)
    ∷ (hubs_left course 1, list (5 ∷ none ∷ none ∷ none ∷ none ∷ none ∷ []))
    ∷ (hubs_left course 2, list (1 ∷ none ∷ none ∷ none ∷ none ∷ none ∷ []))
    ∷ (hubs_left course 3, list (0 ∷ none ∷ none ∷ none ∷ none ∷ none ∷ []))
    ∷ (hubs_left course 5, list (0 ∷ none ∷ none ∷ none ∷ none ∷ none ∷ []))
    ∷ (hubs_left course 6, list (none ∷ none ∷ none ∷ none ∷ none ∷ none ∷ []))
    ∷ (ask course 6 1 3, report (answered (with_route 2 Low)))
    ∷ (walk course 1024 1 3 4, walked (record { answer = answered (with_route 2 Low); walk = 1 ∷ 5 ∷ 3 ∷ none ∷ [] }))
    ∷ (walk course 1025 1 3 4, walked (record { answer = refused 14; walk = none ∷ none ∷ none ∷ none ∷ [] }))
    ∷ (test course 1, verdict (answered (record { verdict = Short; searches = 1 })))
    ∷ (test course 1025, verdict (refused 14))
    ∷ (build_empty 1025 1025, counted (refused 2))
    ∷ (build_empty 1 1025, counted (refused 14))
    ∷ (build_empty 1 1024, counted (refused 8))
    ∷ (walk_empty 1025 1025, report (refused 2))
    ∷ (walk_empty 1 1025, report (refused 14))
    ∷ (walk_empty 1 1024, report (refused 8))
    ∷ (test_empty 1025 1025, verdict (refused 2))
    ∷ (test_empty 1 1025, verdict (refused 14))
    ∷ (test_empty 1 1024, verdict (refused 8))
    ∷ []

pub starred_cases : map (λ c. reply c.0) starred ≡ map (λ c. c.1) starred
unfolding starred reply tables graph size nodes_in lists bytes triangle chain single course_listing course
    from up_to has any all keep first_of gather same over is_digit is_number value_from value_of
    on_first split on_front cut bind behind after_empty fields_behind field_line numbers_in number_line two_line line
    neighbours_of linked ascending bad_size is_survey accepting
    bit_length threshold in_force bad_threshold is_high is_low closed gain best greedy hubs hub_list reach fewest rows_of table entry_at full_table
    low_links low_table sum via report_table
    taken attaining choose pair_by pair before next steps by_low to_hub join by_link walk_nodes sources verdict_of test_result
    named on_links link_of read_on read_links parsed limits_of counts_of parse_links parse graph_of starts_of neighbours_from reading_of reading
    built building asking refuse_walk fit walk_of walking testing
    digits_within digits line_of ordered report_text route_text pair_line pairs_below pair_lines listing_of listing_text listing
starred_cases = refl
