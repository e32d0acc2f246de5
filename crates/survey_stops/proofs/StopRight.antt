-- The line at which reading or importing a text stops is the one that its refusal is about.
-- Assumes nothing.
use mathlib.Core.Path.{◌≡◌, refl, sym, ap, ◌∙◌}
use mathlib.Core.Logic.{inl, inr}
use mathlib.Core.List.{List, [], ◌∷◌}
use Prim.Native.Nat.{ℕ, zero, suc, ◌+◌}
use native.Mathlib.Omega.{arith}
use lib.ListN.{length}
use Rattle.model.specs.Answers.{Outcome, refused, answered, map_answer, and_then}
use Rattle.model.specs.Reading.{on_links, read_on, read_links, parsed, parse_links, parse}
use Rattle.model.specs.Dimacs.{read_edges, file_of}
use Rattle.model.proofs.Outcomes.{never}
use Rattle.survey_reading_lines.specs.LinesRead.{link_in}
use Rattle.survey_stops.specs.Stops.{stop_or, Next, Taken, start, on, Stopped, Refused}
use Rattle.survey_stops.specs.Stops.{first_says, links_stop, read_stop, next_link, ReadRefused}
use Rattle.survey_stops.specs.Stops.{head_says, edges_stop, file_stop, next_edge, FileRefused}

-- ---- refusals

same_refusal : {A : Type 0} {j k : ℕ} → ◌≡◌ {A = Outcome A} (refused j) (refused k) → j ≡ k
same_refusal e = cc

of_mapped_refused : {A B : Type 0} (f : A → B) (o : Outcome A) {k : ℕ} → map_answer f o ≡ refused k → o ≡ refused k
of_mapped_refused f (refused j) e = ap refused (same_refusal e)
of_mapped_refused f (answered x) e = never (sym e)

-- ---- the lines behind the first one

abbrev Links : Type 0
Links = List (ℕ × ℕ)

-- links that are read, and the text that is stopped at, line by line
record Reader (next : Next) (goesOn : ℕ) (reads : ℕ → Links → List ℕ → Outcome Links) (stop : ℕ → Links → List ℕ → List ℕ) : Type 0 where
  reads_end : (done : Links) → reads 0 done [] ≡ answered []
  reads_more : (done : Links) (c : ℕ) (t : List ℕ) → reads 0 done (c ∷ t) ≡ refused goesOn
  reads_next : (m : ℕ) (done : Links) (t : List ℕ)
      → reads (suc m) done t ≡ read_on (λ a b rest. reads m ((a, b) ∷ done) rest) (next done t)
  stop_end : (done : Links) (t : List ℕ) → stop 0 done t ≡ t
  stop_next : (m : ℕ) (done : Links) (t : List ℕ)
      → stop (suc m) done t ≡ stop_or t (λ l. stop m ((l.0, l.1) ∷ done) l.2) (next done t)

module _ {next : Next} {goesOn : ℕ} {reads : ℕ → Links → List ℕ → Outcome Links} {stop : ℕ → Links → List ℕ → List ℕ}
    (r : Reader next goesOn reads stop) (text : List ℕ) (all k : ℕ) where
  -- after the links `done`, m of all lines are left
  abbrev Right : (m : ℕ) (done : Links) (t : List ℕ) → Type 0
  Right m done t =
      length done + m ≡ all → Taken next text done t → reads m done t ≡ refused k → Stopped next goesOn all text (stop m done t) k

  lines_stopped : (m : ℕ) (done : Links) (t : List ℕ) → Right m done t
  unfolding read_on on_links
  lines_stopped zero done [] c w e = never (sym e ∙ r.reads_end done)
  lines_stopped zero done (x ∷ t) c w e = rw (r.stop_end done (x ∷ t)) (record {
    done = done;
    before = w;
    why = inr (omega (arith, c), (λ i. let z : ◌≡◌ {A = ℕ} 0 1 = cc in absurd (omega arith)), same_refusal (sym e ∙ r.reads_more done x t));
  })
  lines_stopped (suc m) done t c w e =
      rw (r.stop_next m done t)
      (at (next done t) refl (sym (r.reads_next m done t) ∙ e) (λ l. lines_stopped m ((l.0, l.1) ∷ done) l.2))
    where
      at : (o : Outcome (ℕ × ℕ × List ℕ)) → next done t ≡ o → read_on (λ a b rest. reads m ((a, b) ∷ done) rest) o ≡ refused k
          → ((l : ℕ × ℕ × List ℕ) → Right m ((l.0, l.1) ∷ done) l.2)
          → Stopped next goesOn all text (stop_or t (λ l. stop m ((l.0, l.1) ∷ done) l.2) o) k
      at (refused j) i e later = record { done = done; before = w; why = inl (omega (arith, c), i ∙ ap refused (same_refusal e)) }
      at (answered l) i e later = later l (omega (arith, c)) (on w i) (of_mapped_refused _ _ e)

-- link lines
pub links_stopped : (n m : ℕ) (text : List ℕ) (k : ℕ) → read_links n m [] text ≡ refused k
    → Stopped (next_link n) 7 m text (links_stop n m [] text) k
unfolding read_links read_on links_stop link_in
links_stopped n m text k e = lines_stopped reader text m k m [] text (omega arith) start e
  where
    reads_next : (m : ℕ) (done : Links) (t : List ℕ)
        → read_links n (suc m) done t ≡ read_on (λ a b rest. read_links n m ((a, b) ∷ done) rest) (next_link n done t)
    reads_next m done [] = refl
    reads_next m done (c ∷ t) = refl

    reader : Reader (next_link n) 7 (read_links n) (links_stop n)
    reader = record {
      reads_end = λ done. refl;
      reads_more = λ done c t. refl;
      reads_next = reads_next;
      stop_end = λ done t. refl;
      stop_next = λ m done t. refl;
    }

-- edge lines
pub edges_stopped : (n m : ℕ) (text : List ℕ) (k : ℕ) → read_edges n m text ≡ refused k
    → Stopped (next_edge n) 13 m text (edges_stop n m text) k
unfolding read_edges edges_stop
edges_stopped n m text k e = lines_stopped reader text m k m [] text (omega arith) start e
  where
    reader : Reader (next_edge n) 13 (λ m done t. read_edges n m t) (λ m done t. edges_stop n m t)
    reader = record {
      reads_end = λ done. refl;
      reads_more = λ done c t. refl;
      reads_next = λ m done t. refl;
      stop_end = λ done t. refl;
      stop_next = λ m done t. refl;
    }

-- ---- the whole text

-- by what its first line says
whole_refused : (o : Outcome (ℕ × ℕ × List ℕ)) (next : ℕ → Next) (goesOn : ℕ) (text : List ℕ) (k : ℕ)
    (reads : ℕ × ℕ × List ℕ → Outcome Links) (stop : ℕ × ℕ × List ℕ → List ℕ)
    → ((f : ℕ × ℕ × List ℕ) → reads f ≡ refused k → Stopped (next f.0) goesOn f.1 f.2 (stop f) k)
    → and_then o (λ f. parsed f.0 (reads f)) ≡ refused k → Refused o next goesOn text (stop_or text stop o) k
unfolding parsed
whole_refused (refused j) next goesOn text k reads stop right e = inl (ap refused (same_refusal e), refl)
whole_refused (answered f) next goesOn text k reads stop right e = inr (f, refl, right f (of_mapped_refused _ (reads f) e))

-- a survey text
pub reading_stopped : (N M : ℕ) (text : List ℕ) (k : ℕ) → parse N M 1025 32768 text ≡ refused k → ReadRefused N M text k
unfolding parse parse_links read_stop
reading_stopped N M text k e =
    whole_refused (first_says N M text) next_link 7 text k (λ f. read_links f.0 f.1 [] f.2) (λ f. links_stop f.0 f.1 [] f.2)
    (λ f. links_stopped f.0 f.1 f.2 k) e

-- a file without comments
pub importing_stopped : (text : List ℕ) (k : ℕ) → file_of 1025 32768 text ≡ refused k → FileRefused text k
unfolding file_of file_stop
importing_stopped text k e =
    whole_refused (head_says text) next_edge 13 text k (λ f. read_edges f.0 f.1 f.2) (λ f. edges_stop f.0 f.1 f.2)
    (λ f. edges_stopped f.0 f.1 f.2 k) e
