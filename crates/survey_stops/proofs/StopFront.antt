-- Reading stops at the line of a text at which it stops in the front of the text.
-- Assumes nothing.
use mathlib.Core.Path.{◌≡◌, refl, sym, ap, ◌∙◌}
use mathlib.Core.List.{List, [], ◌∷◌}
use Prim.Native.Nat.{ℕ, zero, suc, ◌+◌, ◌*◌, ◌<◌}
use native.Mathlib.Omega.{arith}
use lib.ListN.{take}
use Rattle.model.specs.Answers.{Outcome, refused, answered}
use Rattle.model.specs.SurveyText.{line}
use Rattle.model.specs.Reading.{named, link_of}
use Rattle.model.proofs.Fronts.{FrontLine, no_line, same_line, line_front, link_same, counts_same}
use Rattle.model.proofs.Links.{of_first_taken}
use Rattle.survey_reading_lines.specs.LinesRead.{link_in}
use Rattle.survey_stops.specs.Stops.{stop_or, nodes_in, line_feeds, line_at, first_says, links_stop, read_stop}
use Rattle.survey_stops.proofs.StopLaws.{letter_feed, link_feed}

-- ---- the link lines

-- how many of m link lines are taken after the links `done`
unfoldable links_taken : (n m : ℕ) (done : List (ℕ × ℕ)) → List ℕ → ℕ
links_taken n zero done text = 0
links_taken n (suc m) done text = stop_or 0 (λ l. suc (links_taken n m ((l.0, l.1) ∷ done) l.2)) (link_in n (named done) text)

links_feeds : (n m : ℕ) (done : List (ℕ × ℕ)) (text : List ℕ)
    → links_taken n m done text + line_feeds (links_stop n m done text) ≡ line_feeds text
unfolding links_taken links_stop
links_feeds n zero done text = omega arith
links_feeds n (suc m) done text = at (link_in n (named done) text) refl (λ l. links_feeds n m ((l.0, l.1) ∷ done) l.2)
  where
    at : (o : Outcome (ℕ × ℕ × List ℕ)) → link_in n (named done) text ≡ o
        → ((l : ℕ × ℕ × List ℕ)
        → links_taken n m ((l.0, l.1) ∷ done) l.2 + line_feeds (links_stop n m ((l.0, l.1) ∷ done) l.2) ≡ line_feeds l.2)
        → stop_or 0 (λ l. suc (links_taken n m ((l.0, l.1) ∷ done) l.2)) o
        + line_feeds (stop_or text (λ l. links_stop n m ((l.0, l.1) ∷ done) l.2) o) ≡ line_feeds text
    at (refused k) e later = omega arith
    at (answered l) e later = omega (arith, later l, link_feed n (named done) text e)

links_front : (n m : ℕ) (done : List (ℕ × ℕ)) (text : List ℕ) (k : ℕ) → 24 * m < k
    → links_taken n m done (take k text) ≡ links_taken n m done text
unfolding links_taken link_in
links_front n zero done text k h = refl
links_front n (suc m) done text zero h = absurd (omega arith)
links_front n (suc m) done [] (suc k) h = refl
links_front n (suc m) done (c ∷ text) (suc k) h =
    at (line_front _ (omega arith) _ _ (omega arith)) (λ a b. links_front n m ((a, b) ∷ done))
  where
    next : Outcome (ℕ × ℕ × List ℕ) → ℕ
    next o = stop_or 0 (λ l. suc (links_taken n m ((l.0, l.1) ∷ done) l.2)) o

    at : FrontLine 76 (c ∷ text) (suc k)
        → ((a b : ℕ) (rest : List ℕ) (j : ℕ) → 24 * m < j
        → links_taken n m ((a, b) ∷ done) (take j rest) ≡ links_taken n m ((a, b) ∷ done) rest)
        → next (link_of n (named done) (line 76 (take (suc k) (c ∷ text)))) ≡ next (link_of n (named done) (line 76 (c ∷ text)))
    at (no_line e f) rec = rw (f, e)
    at (same_line x y rest j i e f) rec =
        rw (f, e) (link_same next n (named done) (ap suc (rec x y rest j (omega arith))))

-- ---- the whole text

module _ (N M : ℕ) where
  -- how many lines are taken, by what the first one says
  lines_taken : Outcome (ℕ × ℕ × List ℕ) → ℕ
  lines_taken o = stop_or 0 (λ f. suc (links_taken f.0 f.1 [] f.2)) o

  line_taken : (text : List ℕ) → line_at text (read_stop N M text) ≡ suc (lines_taken (first_says N M text))
  unfolding read_stop lines_taken
  line_taken text = at (first_says N M text) refl
    where
      at : (o : Outcome (ℕ × ℕ × List ℕ)) → first_says N M text ≡ o
          → line_at text (stop_or text (λ f. links_stop f.0 f.1 [] f.2) o)
          ≡ suc (stop_or 0 (λ f. suc (links_taken f.0 f.1 [] f.2)) o)
      at (refused k) e = omega arith
      at (answered f) e =
          let first = of_first_taken N M 1025 32768 (line 83 text) f e in
          omega (arith, links_feeds f.0 f.1 [] f.2, letter_feed 83 (λ i. omega arith) text first.0)

  -- within limits, a text stops at the line at which its front stops, with the same count of nodes
  module _ (text : List ℕ) (k : ℕ) (h : 24 * (M + 1) < k) where
    by_first : {C : Type 0} (f : Outcome (ℕ × ℕ × List ℕ) → C)
        → ((x y : ℕ) (rest : List ℕ) (j : ℕ) → 24 * y < j → f (answered (x, y, take j rest)) ≡ f (answered (x, y, rest)))
        → f (first_says N M (take k text)) ≡ f (first_says N M text)
    by_first f same = at (line_front _ (omega arith) _ _ (omega arith))
      where
        at : FrontLine 83 text k → f (first_says N M (take k text)) ≡ f (first_says N M text)
        at (no_line e g) = rw (g, e)
        at (same_line x y rest j i e g) =
            rw (g, e) (counts_same f N M 1025 32768 x y _ _ (λ m. same x y rest j (omega arith)))

    pub stop_front : line_at (take k text) (read_stop N M (take k text)) ≡ line_at text (read_stop N M text)
    unfolding lines_taken
    stop_front =
        line_taken (take k text)
        ∙ ap suc (by_first lines_taken (λ x y rest j i. ap suc (links_front x y [] rest j i)))
        ∙ sym (line_taken text)

    pub nodes_front : nodes_in (first_says N M (take k text)) ≡ nodes_in (first_says N M text)
    nodes_front = by_first nodes_in (λ x y rest j i. refl)
