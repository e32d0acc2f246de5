-- The two lists of a survey: a graph's adjacency lists, end to end (compressed sparse rows).
-- Assumes nothing.
use Rattle.std.specs.Prelude.{Bool, true, not, ◌&&◌, ◌||◌, List, [], ◌∷◌, ◌≡◌, ℕ, ◌+◌, ◌-◌, ◌/◌, ◌%◌, ◌≤◌, ◌<◌, T, eqb, ltb, leb, length, get_or, take, drop}
use Rattle.model.specs.Answers.{Outcome, refused, answered, is_answered, Refusals, ◌when◌, judged}
use Rattle.model.specs.Basics.{up_to, has, all}

-- a graph by each node's own neighbours (rule 3.2)
abbrev pub Graph : Type 0
Graph = ℕ → List ℕ

-- rule 3.2: a node's own neighbours, its adjacency list
unfoldable pub neighbours_of : List ℕ → List ℕ → Graph
neighbours_of starts neighbours v = take (get_or starts (v + 1) 0 - get_or starts v 0) (drop (get_or starts v 0) neighbours)

-- the list ascends strictly (rule 3.2)
unfoldable pub ascending : List ℕ → Bool
ascending [] = true
ascending (x ∷ []) = true
ascending (x ∷ y ∷ ys) = ltb x y && ascending (y ∷ ys)

-- rules 3.1 and 3.2, as a test. The last start is even, since it is 2m
unfoldable pub is_survey : ℕ → List ℕ → List ℕ → Bool
is_survey n starts neighbours =
    let G : Graph = neighbours_of starts neighbours in
    let last = get_or starts n 0 in
    eqb (get_or starts 0 0) 0
    && all (λ v. leb (get_or starts v 0) (get_or starts (v + 1) 0)) (up_to n)
    && eqb (last % 2) 0
    && leb (last / 2) 16384
    && leb last (length neighbours)
    && all (λ v. ascending (G v)) (up_to n)
    && all (λ v. all (λ x. ltb x n && not (eqb x v) && has v (G x)) (G v)) (up_to n)

-- n is not from 1 to `most`, which is 1,024 by rule 2.4, and 128 for the listing (rule 11.2)
abbrev pub outside : (most n : ℕ) → Bool
outside most n = ltb n 1 || ltb most n

-- refusal 2 (rule 10.1)
unfoldable pub bad_size : ℕ → Bool
bad_size n = outside 1024 n

-- refusal 8 for `starts`, of which the length is given (rule 10.6)
abbrev pub short_starts : (n starts : ℕ) → Bool
short_starts n starts = ltb starts (n + 1)

-- rule 10.6: the refusals in their order
abbrev pub accept_refusals : (n : ℕ) (starts neighbours : List ℕ) → Refusals
accept_refusals n starts neighbours =
    (2 when bad_size n)
    ∷ (8 when short_starts n (length starts))
    ∷ (9 when not (is_survey n starts neighbours))
    ∷ []

-- rule 10.6: acceptance
unfoldable pub accepting : ℕ → List ℕ → List ℕ → Outcome (Unit {0})
accepting n starts neighbours = judged refused (accept_refusals n starts neighbours) (answered tt)

-- rule 3.3, as a test
unfoldable pub accepted : ℕ → List ℕ → List ℕ → Bool
accepted n starts neighbours = is_answered (accepting n starts neighbours)

-- ---- the same as facts (`accepted_facts` and `facts_accepted` of proofs/Acceptance.antt)

-- rule 3.2: neighbours lie below n, and b is among a's exactly when a is among b's
pub record IsGraph (n : ℕ) (G : Graph) : Type 0 where
  pub below : (v x : ℕ) → v < n → T (has x (G v)) → x < n
  pub symmetric : (v x : ℕ) → v < n → T (has x (G v)) → T (has v (G x))

-- rules 3.1 and 3.2, as facts
pub record IsSurvey (n : ℕ) (starts neighbours : List ℕ) : Type 0 where
  pub first : get_or starts 0 0 ≡ 0
  pub rising : (v : ℕ) → v < n → get_or starts v 0 ≤ get_or starts (v + 1) 0
  pub even : get_or starts n 0 % 2 ≡ 0
  pub few_links : get_or starts n 0 / 2 ≤ 16384
  pub within : get_or starts n 0 ≤ length neighbours
  pub sorted : (v : ℕ) → v < n → T (ascending (neighbours_of starts neighbours v))
  pub loopless : (v x : ℕ) → v < n → T (has x (neighbours_of starts neighbours v)) → (x ≡ v → ⊥)
  pub graph : IsGraph n (neighbours_of starts neighbours)

-- rule 3.3, as facts
pub record Accepted (n : ℕ) (starts neighbours : List ℕ) : Type 0 where
  pub some_node : 1 ≤ n
  pub size : n ≤ 1024
  pub room : n + 1 ≤ length starts
  pub lists : IsSurvey n starts neighbours
