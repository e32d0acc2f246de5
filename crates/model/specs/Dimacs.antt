-- DIMACS edge files: read into a survey, and written from one. Bytes: 10 is the line feed, 32 the space, 99 the letter c, 101 the letter e
-- and 112 the letter p.
-- Assumes nothing.
use Rattle.std.specs.Prelude.{◌≡◌, Bool, false, ◌||◌, List, [], ◌∷◌, ◌++◌, ℕ, zero, suc, ◌+◌, ◌-◌, ◌/◌, ◌≤◌, T, eqb, length, get_or, take}
use Rattle.std.proofs.Math.Option.{Option, none as missing, some}
use Rattle.model.specs.declared.Size.{Size}
use Rattle.model.specs.Answers.{Outcome, refused, answered, map_answer, and_then, Refusals, ◌when◌, judged}
use Rattle.model.specs.Basics.{has, gather}
use Rattle.std.specs.Prelude.{if◌then◌else◌}
use Rattle.model.specs.Lines.{split, joined, AllFree, two_line, number_line_of}
use Rattle.model.specs.SurveyText.{ordered}
use Rattle.model.specs.Survey.{outside, neighbours_of, accepting, Accepted}
use Rattle.model.specs.Graph.{linked}
use Rattle.model.specs.Reading.{limits_of, named, read_on, Parsed, parsed, graph_of, AfterReading, reading_of}
use Rattle.model.specs.Writing.{AfterWriting, writing_of}
use Rattle.model.specs.Demand.{as_read}

-- ---- the file's text

-- rule 13.1: a comment begins with `c`
unfoldable pub is_comment : List ℕ → Bool
is_comment [] = false
is_comment (x ∷ l) = eqb x 99

-- rule 13.1: the lines that are no comments. What comes after the last line feed is no line, and stays: a comment without its end is a line
-- out of form
unfoldable pub no_comments : List (List ℕ) → List (List ℕ)
no_comments [] = []
no_comments (l ∷ []) = l ∷ []
no_comments (l ∷ k ∷ ls) = let r = no_comments (k ∷ ls) in if is_comment l then r else l ∷ r

-- rule 13.1: a text without its comments
unfoldable pub uncommented : List ℕ → List ℕ
uncommented text = joined 10 (no_comments (split 10 text))

-- the first word of the first line, `p edge` (rule 13.2)
abbrev pub head_word : List ℕ
head_word = 112 ∷ 32 ∷ 101 ∷ 100 ∷ 103 ∷ 101 ∷ []

-- and of the others, `e` (rule 13.3)
abbrev pub edge_word : List ℕ
edge_word = 101 ∷ []

-- rule 13.2: the first line
unfoldable pub head_line : (n m : ℕ) → List ℕ
head_line n m = number_line_of head_word 32 (n ∷ m ∷ [])

-- rule 13.3: the line of a survey's link, whose nodes are numbered from 0
unfoldable pub edge_line : (a b : ℕ) → List ℕ
edge_line a b = number_line_of edge_word 32 ((a + 1) ∷ (b + 1) ∷ [])

-- rule 13.3: a line for each link
unfoldable pub edge_lines : List (ℕ × ℕ) → List ℕ
edge_lines ls = gather (λ l. edge_line l.0 l.1) ls

-- rules 13.2 and 13.3: a file without comments
unfoldable pub file_text : (n m : ℕ) → List (ℕ × ℕ) → List ℕ
file_text n m ls = head_line n m ++ edge_lines ls

-- ---- reading

-- rule 13.4: n, the file's m and the text after the first line, for lists of p and q entries
unfoldable pub head_of : (p q : ℕ) → Option (ℕ × ℕ × List ℕ) → Outcome (ℕ × ℕ × List ℕ)
head_of p q missing = refused 13
head_of p q (some f) = limits_of 1024 16384 p q f

-- rule 13.5, behind the line's form: the refusals in their order
abbrev pub edge_refusals : (n a b : ℕ) → Refusals
edge_refusals n a b =
    (4 when outside n a || outside n b)
    ∷ (5 when eqb a b)
    ∷ []

-- rule 13.5: the survey's link that a line names, and the text after the line
unfoldable pub edge_of : ℕ → Option (ℕ × ℕ × List ℕ) → Outcome (ℕ × ℕ × List ℕ)
edge_of n missing = refused 13
edge_of n (some l) = judged refused (edge_refusals n l.0 l.1) (answered (l.0 - 1, l.1 - 1, l.2))

-- rule 13.6: the links that m lines name, up to the text's end
unfoldable pub read_edges : ℕ → ℕ → List ℕ → Outcome (List (ℕ × ℕ))
read_edges n zero [] = answered []
read_edges n zero (c ∷ text) = refused 13
read_edges n (suc m) text = read_on (λ a b rest. read_edges n m rest) (edge_of n (two_line edge_word 32 text))

-- rules 13.2 and 13.3: what a file without comments says, the count of nodes and the links in the order of their lines
unfoldable pub file_of : (p q : ℕ) → List ℕ → Outcome Parsed
file_of p q text = and_then (head_of p q (two_line head_word 32 text)) (λ f. parsed f.0 (read_edges f.0 f.1 f.2))

-- rule 13.7: the links that neither `done` nor an earlier one names, either way round
unfoldable pub once_after : (done links : List (ℕ × ℕ)) → List (ℕ × ℕ)
once_after done [] = []
once_after done (l ∷ ls) =
    let old = once_after done ls in
    let new = l ∷ once_after (l ∷ done) ls in
    if named done l.0 l.1 then old else new

-- the same of what a file says (rule 13.7)
abbrev pub kept_once : Parsed → Parsed
kept_once x = record { nodes = x.nodes; links = once_after [] x.links }

-- rules 13.4 to 13.7: importing a file into lists of p and q entries. The survey's m is the number of links kept
unfoldable pub importing : (text : List ℕ) (p q : ℕ) → AfterReading
importing text p q = reading_of p q (map_answer kept_once (file_of p q (uncommented text)))

-- ---- writing

-- rule 13.8: the file of a survey, with ends and lines ordered as in writing back. m is half the last start
unfoldable pub export_of : (n : ℕ) (starts neighbours : List ℕ) → List ℕ
export_of n starts neighbours = file_text n (get_or starts n 0 / 2) (ordered n (neighbours_of starts neighbours))

-- rule 13.8: refused as writing back is; else the survey's file is written
unfoldable pub exporting : (n : ℕ) (starts neighbours buffer : List ℕ) → AfterWriting
exporting n starts neighbours buffer = writing_of (accepting n starts neighbours) (export_of n starts neighbours) buffer

-- ---- what imported and exported files mean

-- a line after the first one: a comment by its bytes after the `c`, or a link (rules 13.1 and 13.3)
pub data Item : Type 0 where
  comment : List ℕ → Item
  edge : ℕ → ℕ → Item

-- its text (rules 13.1 and 13.3)
unfoldable pub item_text : Item → List ℕ
item_text (comment bytes) = 99 ∷ (bytes ++ 10 ∷ [])
item_text (edge a b) = edge_line a b

-- the text of comments (rule 13.1)
unfoldable pub comments_text : List (List ℕ) → List ℕ
comments_text cs = gather (λ bytes. item_text (comment bytes)) cs

-- a comment is one line (rule 13.1)
abbrev pub OneLine : Item → Type 0
OneLine (comment bytes) = T (has 10 bytes) → ⊥
OneLine (edge a b) = Unit {0}

-- each of them is one line (rule 13.1)
abbrev pub OneLines : List Item → Type 0
OneLines [] = Unit {0}
OneLines (i ∷ is) = OneLine i × OneLines is

-- the links among them, in their order (rule 13.3)
unfoldable pub edges_among : List Item → List (ℕ × ℕ)
edges_among [] = []
edges_among (comment bytes ∷ is) = edges_among is
edges_among (edge a b ∷ is) = (a, b) ∷ edges_among is

-- rules 13.1 to 13.3: a text in form, of comments, the line `p edge n m`, then comments and the m lines of these links, in any mixture.
-- The links are of nodes from 0 and their lines of nodes from 1: a text that names node 0 is none
pub record IsFile (text : List ℕ) (n : ℕ) (links : List (ℕ × ℕ)) : Type 0 where
  pub before : List (List ℕ)
  pub items : List Item
  pub before_lines : AllFree 10 before
  pub items_lines : OneLines items
  pub lines : text ≡ comments_text before ++ (head_line n (length links) ++ gather item_text items)
  pub edges : edges_among items ≡ links

-- rule 13.9: an imported survey is accepted, its links are exactly the pairs that the file's `e` lines name, and its m is the number of
-- different ones: of the pairs a < b that they name
pub record IsImported (text : List ℕ) (x : Size) (starts neighbours : List ℕ) : Type 0 where
  pub survey : Accepted x.nodes starts neighbours
  pub links : List (ℕ × ℕ)
  pub file : IsFile text x.nodes links
  pub exactly : (a b : ℕ) → linked x.nodes (neighbours_of starts neighbours) a b ≡ named links a b
  pub count : length (ordered x.nodes (graph_of x.nodes links)) ≡ x.links

-- the same of what importing answers and leaves, where it is not refused (rule 13.9)
abbrev pub ImportRight : List ℕ → AfterReading → Type 0
ImportRight text r = (x : Size) → r.answer ≡ answered x → IsImported text x r.starts r.neighbours

-- rule 13.9: the file that was written, of k bytes, is imported as the same survey, into any lists that are long enough
abbrev pub ExportRight : (n : ℕ) (starts neighbours : List ℕ) → AfterWriting → Type 0
ExportRight n starts neighbours r =
    (k : ℕ) → r.answer ≡ answered k → (p q : ℕ) → n + 1 ≤ p → get_or starts n 0 ≤ q
    → importing (take k r.buffer) p q ≡ as_read n starts neighbours p q
