-- A line that is taken has one line feed, so the lines taken before a text stops are the line feeds before its rest.
-- Assumes nothing.
use mathlib.Core.Path.{◌≡◌, refl, sym, ap, ◌∙◌, subst}
use mathlib.Core.List.{List, [], ◌∷◌}
use mathlib.Core.Option.{some}
use Prim.Native.Nat.{ℕ, suc, ◌+◌, ◌-◌, ◌≤◌, ◌<◌}
use native.Mathlib.Omega.{arith}
use lib.Dec.{T, eqb, eqb→eq}
use lib.ListN.{length, drop, replicate}
use Rattle.model.specs.Answers.{refused, answered}
use Rattle.model.specs.declared.Refusal.{Refusal}
use Rattle.model.specs.Basics.{has, keep}
use Rattle.model.specs.Graph.{Edges}
use Rattle.model.specs.Lines.{split, two_line}
use Rattle.model.specs.SurveyText.{line}
use Rattle.model.specs.Reading.{named}
use Rattle.model.specs.Dimacs.{uncommented, head_word, edge_word, edge_of}
use Rattle.model.proofs.Lists.{keep_append, keep_none, of_single}
use Rattle.model.proofs.Lines.{number_body, numbers_text, numbers_whole, two_sound}
use Rattle.model.proofs.Links.{Within, of_link_taken, of_first_taken}
use Rattle.model.proofs.Dimacs.{head_free, edge_free, of_edge_taken, of_head_taken}
use Rattle.model.proofs.Outcomes.{never}
use Rattle.base_nodeset.specs.Matrix.{edges_in}
use Rattle.survey_reading_lines.specs.LinesRead.{Holds, link_in, line_answer}
use Rattle.std.specs.Prelude.{Result, Ok, Err}
use Rattle.text_reading.specs.declared.Pair.{Pair}
use Rattle.survey_reading_lines.proofs.LinkLaws.{none_held, judged}
use Rattle.survey_importing_lines.specs.FileLines.{file_answer}
use Rattle.survey_stops.specs.Stops.{stop_or, nodes_in, line_feeds, lines_before, line_at, LinesTaken, first_says, links_stop, read_stop}
use Rattle.survey_stops.specs.Stops.{head_says, edges_stop, file_stop, kept_line, file_line}

-- ---- line feeds

-- a line of two numbers has one line feed
one_feed : (word : List ℕ) (c : ℕ) → (T (has 10 word) → ⊥) → (c ≡ 10 → ⊥) → (text : List ℕ) {x y : ℕ} {rest : List ℕ}
    → two_line word c text ≡ some (x, y, rest) → line_feeds text ≡ 1 + line_feeds rest
unfolding line_feeds keep
one_feed word c w d text {x} {y} {rest} e =
    let body = number_body word c (x ∷ y ∷ []) in
    let whole = numbers_whole word c w d (x ∷ y ∷ []) in
    let none = keep_none (eqb 10) body (λ b h t. whole (subst (λ (z : ℕ). T (has z body)) (sym (eqb→eq 10 b t)) h)) in
    ap (λ (t : List ℕ). length (keep (eqb 10) t)) ((two_sound word c text x y rest e).is_text ∙ numbers_text word c (x ∷ y ∷ []) rest)
    ∙ ap length (keep_append (eqb 10) body (10 ∷ rest))
    ∙ rw none (omega arith)

pub letter_feed : (letter : ℕ) → (letter ≡ 10 → ⊥) → (text : List ℕ) {x y : ℕ} {rest : List ℕ}
    → line letter text ≡ some (x, y, rest) → line_feeds text ≡ 1 + line_feeds rest
unfolding line
letter_feed letter d text e = one_feed (letter ∷ []) 44 (λ t. d (sym (of_single 10 letter t))) (λ i. omega arith) text e

pub link_feed : (n : ℕ) (E : Edges) (t : List ℕ) {a b : ℕ} {rest : List ℕ} → link_in n E t ≡ answered (a, b, rest) → line_feeds t ≡ 1 + line_feeds rest
unfolding link_in
link_feed n E [] e = never e
link_feed n E (c ∷ t) {a} {b} {rest} e = letter_feed 76 (λ i. omega arith) _ (of_link_taken _ _ _ (a, b, rest) e).0

edge_feed : (n : ℕ) (t : List ℕ) {a b : ℕ} {rest : List ℕ} → edge_of n (two_line edge_word 32 t) ≡ answered (a, b, rest)
    → line_feeds t ≡ 1 + line_feeds rest
edge_feed n t {a} {b} {rest} e = one_feed edge_word 32 edge_free (λ i. omega arith) t (of_edge_taken _ _ (a, b, rest) e).0

-- ---- link lines

-- what the loop over the link lines keeps: k of m are taken, and those that are left still determine where the text stops
pub record Taking (n m : ℕ) (s : List ℕ) (at : ℕ) (ws : List ℕ) (next k : ℕ) : Type 0 where
  pub done : List (ℕ × ℕ)
  pub within : k ≤ m
  pub held : Holds ws done
  pub stop : links_stop n (m - k) done (drop next s) ≡ links_stop n m [] (drop at s)
  pub feeds : k + line_feeds (drop next s) ≡ line_feeds (drop at s)

pub taking_none : (n m : ℕ) (s : List ℕ) (at : ℕ) {ws : List ℕ} → ws ≡ replicate 16384 0 → Taking n m s at ws at 0
taking_none n m s at e = record {
  done = [];
  within = omega arith;
  held = rw e none_held;
  stop = let z : m - 0 ≡ m = omega arith in rw z refl;
  feeds = omega arith;
}

module _ {n m : ℕ} {s : List ℕ} {at : ℕ} {ws : List ℕ} {next k : ℕ} (few : n ≤ 1024) (p : Taking n m s at ws next k) where
  -- the matrix, and the links given before, give the same answer to the next line
  agrees : (t : List ℕ) → link_in n (named p.done) t ≡ link_in n (edges_in ws) t
  unfolding link_in
  agrees [] = refl
  agrees (c ∷ t) = judged n p.done (edges_in ws) (λ a b ha hb. p.held.says a b (omega arith) (omega arith)) _

  next_stop : k < m → links_stop n (m - k) p.done (drop next s)
      ≡ stop_or (drop next s) (λ l. links_stop n (m - (k + 1)) ((l.0, l.1) ∷ p.done) l.2) (link_in n (edges_in ws) (drop next s))
  unfolding links_stop
  next_stop h = let j : m - k ≡ suc (m - (k + 1)) = omega arith in rw (j, agrees (drop next s)) refl

  -- the next line is refused
  pub taking_refused : k < m → {c : ℕ} → link_in n (edges_in ws) (drop next s) ≡ refused c
      → LinesTaken m k (drop at s) (links_stop n m [] (drop at s))
  taking_refused h e = record { few = p.within; feeds = rw (← p.stop, next_stop h, e) p.feeds }

  -- it is taken, and the link put into the matrix
  pub taking_taken : k < m → {a b : ℕ} (e : ℕ) (ws' : List ℕ) → link_in n (edges_in ws) (drop next s) ≡ answered (a, b, drop e s)
      → ((ls : List (ℕ × ℕ)) → Holds ws ls → Holds ws' ((a, b) ∷ ls)) → Taking n m s at ws' e (k + 1)
  taking_taken h {a} {b} e ws' l more = record {
    done = (a, b) ∷ p.done;
    within = omega arith;
    held = more p.done p.held;
    stop = sym (next_stop h ∙ rw l refl) ∙ p.stop;
    feeds = omega (arith, link_feed _ _ _ l, p.feeds);
  }

  -- all lines are taken
  pub taking_done : m ≤ k → LinesTaken m m (drop at s) (links_stop n m [] (drop at s))
  unfolding links_stop
  taking_done h =
      let z : m - k ≡ 0 = omega arith in
      let all : k ≡ m = omega (arith, p.within) in
      record { few = omega arith; feeds = rw (← p.stop, z, ← all) p.feeds }

-- ---- edge lines

-- the same of the loop over the edge lines
pub record TakingEdges (n m : ℕ) (s : List ℕ) (at next k : ℕ) : Type 0 where
  pub within : k ≤ m
  pub stop : edges_stop n (m - k) (uncommented (drop next s)) ≡ edges_stop n m (uncommented (drop at s))
  pub feeds : k + line_feeds (uncommented (drop next s)) ≡ line_feeds (uncommented (drop at s))

pub edges_none : (n m : ℕ) (s : List ℕ) (at : ℕ) → TakingEdges n m s at at 0
edges_none n m s at = record {
  within = omega arith;
  stop = let z : m - 0 ≡ m = omega arith in rw z refl;
  feeds = omega arith;
}

module _ {n m : ℕ} {s : List ℕ} {at next k : ℕ} (p : TakingEdges n m s at next k) where
  abbrev left : List ℕ
  left = uncommented (drop next s)

  -- the lines taken are those before the rest
  abbrev Counted : Type 0
  Counted = LinesTaken m k (uncommented (drop at s)) (edges_stop n m (uncommented (drop at s)))

  next_edge : k < m → edges_stop n (m - k) left ≡ stop_or left (λ l. edges_stop n (m - (k + 1)) l.2) (edge_of n (two_line edge_word 32 left))
  unfolding edges_stop
  next_edge h = let j : m - k ≡ suc (m - (k + 1)) = omega arith in rw j refl

  pub edges_refused : k < m → {c : ℕ} → edge_of n (two_line edge_word 32 left) ≡ refused c → Counted
  edges_refused h e = record { few = p.within; feeds = rw (← p.stop, next_edge h, e) p.feeds }

  pub edges_on : k < m → {a b : ℕ} (e : ℕ) → edge_of n (two_line edge_word 32 left) ≡ answered (a, b, uncommented (drop e s))
      → TakingEdges n m s at e (k + 1)
  edges_on h e l = record {
    within = omega arith;
    stop = sym (next_edge h ∙ rw l refl) ∙ p.stop;
    feeds = omega (arith, edge_feed _ left l, p.feeds);
  }

  pub edges_done : m ≤ k → LinesTaken m m (uncommented (drop at s)) (edges_stop n m (uncommented (drop at s)))
  unfolding edges_stop
  edges_done h =
      let z : m - k ≡ 0 = omega arith in
      let all : k ≡ m = omega (arith, p.within) in
      record { few = omega arith; feeds = rw (← p.stop, z, ← all) p.feeds }

-- ---- the whole text

-- by what the first line of a survey text says
module _ (N M : ℕ) (text : List ℕ) (w : Result (Pair ℕ) Refusal) (told : line_answer text w ≡ first_says N M text) where
  -- where it stops, and its count of nodes
  abbrev pub ReadPlace : (line nodes : ℕ) → Type 0
  ReadPlace line nodes = (line ≡ line_at text (read_stop N M text)) × (nodes ≡ nodes_in (first_says N M text))

  pub first_refused : {r : Refusal} → w ≡ Err r → ReadPlace 1 0
  unfolding read_stop
  first_refused e = rw (← told, e) (omega arith, refl)

  module _ {p : Pair ℕ} (e : w ≡ Ok p) where
    first_answered : first_says N M text ≡ answered (p.a, p.b, drop p.end text)
    first_answered = sym told ∙ rw e refl

    taken : (line 83 text ≡ some (p.a, p.b, drop p.end text)) × Within N M 1025 32768 p.a p.b
    taken = of_first_taken N M 1025 32768 (line 83 text) (p.a, p.b, drop p.end text) first_answered

    pub first_within : Within N M 1025 32768 p.a p.b
    first_within = taken.1

    pub first_read : {k : ℕ} → LinesTaken p.b k (drop p.end text) (links_stop p.a p.b [] (drop p.end text)) → ReadPlace (2 + k) p.a
    unfolding read_stop
    first_read t = rw first_answered (omega (arith, t.feeds, letter_feed 83 (λ i. omega arith) text taken.0), refl)

-- by what the first line of a file says
module _ (text : List ℕ) (w : Result (Pair ℕ) Refusal) (told : file_answer text w ≡ head_says (uncommented text)) where
  -- the line after k lines that are no comments is where it stops, with its count of nodes
  abbrev pub FilePlace : (k nodes : ℕ) → Type 0
  FilePlace k nodes = (kept_line k (split 10 text) ≡ file_line text) × (nodes ≡ nodes_in (head_says (uncommented text)))

  pub head_refused : {r : Refusal} → w ≡ Err r → FilePlace 0 0
  unfolding file_line file_stop
  head_refused e =
      let z : 0 ≡ line_feeds (uncommented text) - line_feeds (uncommented text) = omega arith in
      rw (← told, e) (rw (← z) refl, refl)

  module _ {p : Pair ℕ} (e : w ≡ Ok p) where
    head_answered : head_says (uncommented text) ≡ answered (p.a, p.b, uncommented (drop p.end text))
    head_answered = sym told ∙ rw e refl

    head : (two_line head_word 32 (uncommented text) ≡ some (p.a, p.b, uncommented (drop p.end text))) × Within 1024 16384 1025 32768 p.a p.b
    head = of_head_taken 1025 32768 (two_line head_word 32 (uncommented text)) (p.a, p.b, uncommented (drop p.end text)) head_answered

    pub head_within : Within 1024 16384 1025 32768 p.a p.b
    head_within = head.1

    pub head_read : {k : ℕ} → LinesTaken p.b k (uncommented (drop p.end text)) (edges_stop p.a p.b (uncommented (drop p.end text))) → FilePlace (1 + k) p.a
    unfolding file_line file_stop
    head_read {k} t =
        let feeds = one_feed head_word 32 head_free (λ i. omega arith) (uncommented text) head.0 in
        let before : 1 + k ≡ lines_before (uncommented text) (edges_stop p.a p.b (uncommented (drop p.end text))) = omega (arith, t.feeds) in
        rw head_answered (ap (λ (j : ℕ). kept_line j (split 10 text)) before, refl)
