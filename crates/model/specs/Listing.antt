-- What the program `reports` prints for a survey text. Bytes: 45 is `-`, 80 is P, 82 is R, 88 is X.
-- Assumes nothing.
use Rattle.std.specs.Prelude.{List, [], ◌∷◌, ◌++◌, ℕ, ◌+◌, ◌*◌, eqb, length}
use Rattle.model.specs.declared.Route.{Route}
use Rattle.model.specs.declared.Route.TheVariants.{Itself, Low, Through, NoRoute, Link}
use Rattle.model.specs.declared.Answer.{Answer}
use Rattle.model.specs.Answers.{Outcome, refused, answered}
use Rattle.model.specs.Basics.{none, up_to, gather}
use Rattle.std.specs.Prelude.{if◌then◌else◌}
use Rattle.model.specs.Numbers.{digits}
use Rattle.model.specs.SurveyText.{line_of, ordered}
use Rattle.model.specs.Survey.{Graph}
use Rattle.model.specs.Threshold.{in_force}
use Rattle.model.specs.Hubs.{hubs}
use Rattle.model.specs.Tables.{full_table, low_table, report_table}
use Rattle.model.specs.Pair.{pair}
use Rattle.model.specs.Writing.{AfterWriting, writing_of}
use Rattle.model.specs.Reading.{Parsed, parse, graph_of}

-- rule 11.1: a report's text; 45 is `-`
unfoldable pub report_text : ℕ → List ℕ
report_text r = if eqb r none then 45 ∷ [] else digits r

-- rule 11.1: a route's text; `low` is 108 111 119 and `link` 108 105 110 107. `Itself` does not occur, since a < b
unfoldable pub route_text : Route → List ℕ
route_text Itself = []
route_text Low = 108 ∷ 111 ∷ 119 ∷ []
route_text (Through h) = digits h
route_text NoRoute = 45 ∷ []
route_text Link = 108 ∷ 105 ∷ 110 ∷ 107 ∷ []

-- rule 11.1: a pair's line (no pair is refused: `listing_right` of proofs/Listing.antt)
unfoldable pub pair_line : ℕ × ℕ → Outcome Answer → List ℕ
pair_line p (refused k) = []
pair_line p (answered x) =
    80 ∷ 44 ∷ (digits p.0 ++ 44 ∷ (digits p.1 ++ 44 ∷ (report_text x.report ++ 44 ∷ (route_text x.route ++ 10 ∷ []))))

-- rule 11.1: all pairs a < b below n, ascending
unfoldable pub pairs_below : ℕ → List (ℕ × ℕ)
pairs_below n = ordered n (λ v. up_to n)

-- the pairs' lines, from the three tables (rule 11.1)
unfoldable pub pair_lines : ℕ → (full low report : List ℕ) → List ℕ
pair_lines n full low report = gather (λ p. pair_line p (pair n full low report p.0 p.1)) (pairs_below n)

-- rule 11.1: the first line, and the pairs' lines. For any threshold s
unfoldable pub listing_of : ℕ → ℕ → Graph → List ℕ
listing_of n s G =
    line_of 82 n (length (hubs n s G)) ++ pair_lines n (full_table n s G) (low_table n s G) (report_table n s G)

-- rule 11.2: the one line of a text that is refused, or the listing of what it says, with the stored table's threshold
unfoldable pub listing_text : Outcome Parsed → List ℕ
listing_text (refused k) = 88 ∷ 44 ∷ (digits k ++ 10 ∷ [])
listing_text (answered x) = listing_of x.nodes (in_force x.nodes 0) (graph_of x.nodes x.links)

-- rule 11.2: a text is read within the listing's own limits, for which its lists are long enough
unfoldable pub listing : List ℕ → List ℕ
listing text = listing_text (parse 128 2048 (128 + 1) (2 * 2048) text)

-- rule 11.4: the call that writes a listing into a buffer (docs/DECISIONS.md, 19)
abbrev pub writing_listing : (text buffer : List ℕ) → AfterWriting
writing_listing text buffer = writing_of (answered tt) (listing text) buffer
