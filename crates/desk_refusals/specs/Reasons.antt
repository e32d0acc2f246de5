-- What is said where something is refused, by the refusal's number, as docs/COMMANDS.md gives it: of a text, at the line at which reading
-- stopped; of a node; of a threshold.
-- Assumes nothing.
use Rattle.std.specs.Prelude.{List, [], ◌∷◌, ◌++◌, ℕ, ◌-◌, eqb}
use Rattle.model.specs.Basics.{bytes}
use Rattle.std.specs.Prelude.{if◌then◌else◌}
use Rattle.desk_sentences.specs.Sentences.{sentence}
use Rattle.desk_refusals.specs.declared.Source.{Source}
use Rattle.desk_refusals.specs.declared.Source.TheVariants.{Survey, Listing, File}
use Rattle.desk_refusals.specs.declared.Stop.{Stop}

unfoldable pub form_said : (line : ℕ) → List ℕ
form_said line =
    if eqb line 1 then bytes "the first line of a survey is S,n,m and a line feed; no spaces, carriage returns or leading zeros\n"
    else bytes "a link line is L,a,b and a line feed; no spaces, carriage returns or leading zeros\n"

unfoldable pub nodes_most : Source → ℕ → List ℕ
nodes_most Survey most = sentence (bytes "a survey has 1 to # nodes\n") (most ∷ [])
nodes_most Listing most = sentence (bytes "reports takes 1 to # nodes\n") (most ∷ [])
nodes_most File most = sentence (bytes "a survey has 1 to # nodes\n") (most ∷ [])

unfoldable pub links_most : Source → ℕ → List ℕ
links_most Survey most = sentence (bytes "a survey has at most # links\n") (most ∷ [])
links_most Listing most = sentence (bytes "reports takes at most # links\n") (most ∷ [])
links_most File most = sentence (bytes "a file has at most # lines e a b\n") (most ∷ [])

unfoldable pub range_said : (first last : ℕ) → List ℕ
range_said first last = sentence (bytes "the nodes are # to #\n") (first ∷ last ∷ [])

-- said of the other numbers, with none of which a text is refused that is read into the longest lists
unfoldable pub unfit : List ℕ
unfit = bytes "it does not fit\n"

unfoldable pub reason : ℕ → Stop → List ℕ
reason k x =
    if eqb k 1 then form_said x.line
    else if eqb k 2 then nodes_most x.source x.most.nodes
    else if eqb k 3 then links_most x.source x.most.links
    else if eqb k 4 then range_said x.first x.last
    else if eqb k 5 then bytes "a link joins two different nodes\n"
    else if eqb k 6 then bytes "the link was given before, either way round\n"
    else if eqb k 7 then bytes "as many links must follow line 1 as it says, and nothing else\n"
    else if eqb k 13 then bytes "a file is p edge n m, then m lines e a b, each with a line feed; no carriage returns or leading zeros; comments begin with c\n"
    else unfit

unfoldable pub text_refused : ℕ → Stop → List ℕ
text_refused k x = sentence (bytes "refused # at line #: ") (k ∷ x.line ∷ []) ++ reason k x

unfoldable pub node_refused : (v n : ℕ) → List ℕ
node_refused v n = sentence (bytes "refused # at node #: the nodes are 0 to #\n") (10 ∷ v ∷ (n - 1) ∷ [])

unfoldable pub threshold_refused : ℕ → List ℕ
threshold_refused t = sentence (bytes "refused # at threshold #: a threshold is at most 1024\n") (14 ∷ t ∷ [])
