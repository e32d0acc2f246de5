-- Reading a survey from its text: the answer, and what the two lists hold at return.
-- Assumes nothing.
use Rattle.std.specs.Prelude.{Result, Bool, false, ◌&&◌, ◌||◌, List, [], ◌∷◌, map, ℕ, zero, suc, ◌+◌, ◌*◌, eqb, ltb, leb, length, replicate}
use Rattle.std.proofs.Math.Option.{Option, none as missing, some}
use Rattle.model.specs.declared.Size.{Size}
use Rattle.model.specs.declared.Refusal.{Refusal}
use Rattle.model.specs.Answers.{Outcome, refused, answered, map_answer, and_then, Refusals, ◌when◌, judged, outcome}
use Rattle.model.specs.Basics.{up_to, keep, gather, over}
use Rattle.model.specs.SurveyText.{line}
use Rattle.model.specs.Survey.{Graph, outside, short_starts}

-- rule 10.2, behind the line's form: the refusals in their order, for any limits and for lists of p and q entries
abbrev pub limit_refusals : (most_nodes most_links p q n m : ℕ) → Refusals
limit_refusals most_nodes most_links p q n m =
    (2 when outside most_nodes n)
    ∷ (3 when ltb most_links m)
    ∷ (8 when short_starts n p || ltb q (2 * m))
    ∷ []

-- rule 10.2: n, m and the text after the first line
unfoldable pub limits_of : (most_nodes most_links p q : ℕ) → ℕ × ℕ × List ℕ → Outcome (ℕ × ℕ × List ℕ)
limits_of most_nodes most_links p q f = judged refused (limit_refusals most_nodes most_links p q f.0 f.1) (answered f)

-- rule 10.2: the first line
unfoldable pub counts_of : (most_nodes most_links p q : ℕ) → Option (ℕ × ℕ × List ℕ) → Outcome (ℕ × ℕ × List ℕ)
counts_of most_nodes most_links p q missing = refused 1
counts_of most_nodes most_links p q (some f) = limits_of most_nodes most_links p q f

-- rule 2.5: a and b are the ends of one of these links, either way round
unfoldable pub named : List (ℕ × ℕ) → ℕ → ℕ → Bool
named [] a b = false
named (l ∷ ls) a b = eqb l.0 a && eqb l.1 b || eqb l.0 b && eqb l.1 a || named ls a b

-- a link in front of those that the later lines name (rule 2.5)
unfoldable pub on_links : ℕ × ℕ → Outcome (List (ℕ × ℕ)) → Outcome (List (ℕ × ℕ))
on_links l o = map_answer (λ ls. l ∷ ls) o

-- rule 10.3, behind the line's form: the refusals in their order, of a line that comes after the links `given`
abbrev pub link_refusals : (n : ℕ) (given : ℕ → ℕ → Bool) (a b : ℕ) → Refusals
link_refusals n given a b =
    (4 when leb n a || leb n b)
    ∷ (5 when eqb a b)
    ∷ (6 when given a b)
    ∷ []

-- rule 10.3: the link of a line, and the text after the line
unfoldable pub link_of : ℕ → (given : ℕ → ℕ → Bool) → Option (ℕ × ℕ × List ℕ) → Outcome (ℕ × ℕ × List ℕ)
link_of n given missing = refused 1
link_of n given (some l) = judged refused (link_refusals n given l.0 l.1) (answered l)

-- the link that a line names, in front of those that `next` reads after it (rule 10.3)
unfoldable pub read_on : (next : ℕ → ℕ → List ℕ → Outcome (List (ℕ × ℕ))) → Outcome (ℕ × ℕ × List ℕ) → Outcome (List (ℕ × ℕ))
read_on next o = and_then o (λ l. on_links (l.0, l.1) (next l.0 l.1 l.2))

-- rule 10.4: the links that m lines name after those of `done`
unfoldable pub read_links : ℕ → ℕ → List (ℕ × ℕ) → List ℕ → Outcome (List (ℕ × ℕ))
read_links n zero done [] = answered []
read_links n zero done (c ∷ text) = refused 7
read_links n (suc m) done [] = refused 7
read_links n (suc m) done (c ∷ text) = read_on (λ a b rest. read_links n m ((a, b) ∷ done) rest) (link_of n (named done) (line 76 (c ∷ text)))

-- what a text says: the count of nodes, and the links in the order of their lines (rules 2.4 and 2.5)
pub record Parsed : Type 0 where
  pub nodes : ℕ
  pub links : List (ℕ × ℕ)

-- the links with the count of nodes (rule 2.4)
unfoldable pub parsed : ℕ → Outcome (List (ℕ × ℕ)) → Outcome Parsed
parsed n o = map_answer (λ ls. record { nodes = n; links = ls }) o

-- the link lines after the first line (rule 2.5)
unfoldable pub parse_links : Outcome (ℕ × ℕ × List ℕ) → Outcome Parsed
parse_links o = and_then o (λ f. parsed f.0 (read_links f.0 f.1 [] f.2))

-- rules 2.4 and 2.5: the whole text, within limits on its counts
unfoldable pub parse : (most_nodes most_links p q : ℕ) → List ℕ → Outcome Parsed
parse most_nodes most_links p q text = parse_links (counts_of most_nodes most_links p q (line 83 text))

-- each node's neighbours by these links, ascending (rule 3.2)
unfoldable pub graph_of : ℕ → List (ℕ × ℕ) → Graph
graph_of n ls v = keep (named ls v) (up_to n)

-- rule 3.1: where each node's neighbours begin
unfoldable pub starts_of : ℕ → Graph → List ℕ
starts_of n G = map (λ v. length (gather G (up_to v))) (up_to (n + 1))

-- rule 3.2: the neighbours of all nodes, one node's after another's
unfoldable pub neighbours_from : ℕ → Graph → List ℕ
neighbours_from n G = gather G (up_to n)

-- the answer, and what the two lists hold at return (rule 10.5)
pub record AfterReading : Type 0 where
  pub answer : Outcome Size
  pub starts : List ℕ
  pub neighbours : List ℕ

-- what a call of the code returned and left (rule 10.5)
abbrev pub read_returned : Result Size Refusal → List ℕ → List ℕ → AfterReading
read_returned r s x = record { answer = outcome r; starts = s; neighbours = x }

-- rule 10.5: lists of p and q entries: all zero where the text is refused, else the survey, and zero past the entries used
unfoldable pub reading_of : (p q : ℕ) → Outcome Parsed → AfterReading
reading_of p q (refused k) = record { answer = refused k; starts = replicate p 0; neighbours = replicate q 0 }
reading_of p q (answered x) =
    let G : Graph = graph_of x.nodes x.links in
    record {
      answer = answered (record { nodes = x.nodes; links = length x.links });
      starts = over (starts_of x.nodes G) (replicate p 0);
      neighbours = over (neighbours_from x.nodes G) (replicate q 0);
    }

-- rules 10.2 to 10.5: reading a text into lists of p and q entries
unfoldable pub reading : (text : List ℕ) (p q : ℕ) → AfterReading
reading text p q = reading_of p q (parse 1024 16384 p q text)
