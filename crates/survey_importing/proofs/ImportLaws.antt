-- What a whole file gives, read into lists that were cleared.
-- Assumes nothing.
use mathlib.Core.Path.{◌≡◌, refl, sym, ap}
use mathlib.Core.List.{List, []}
use Prim.Native.Nat.{ℕ, ◌*◌, ◌≤◌}
use native.Mathlib.Omega.{arith}
use lib.ListN.{length, drop}
use Rattle.model.specs.Answers.{Outcome, refused, answered, number, map_answer, and_then}
use Rattle.model.specs.declared.Refusal.{Refusal}
use Rattle.std.specs.Prelude.{Ok, Err}
use Rattle.model.specs.Lines.{two_line}
use Rattle.model.specs.Reading.{parsed, AfterReading, read_returned, reading_of}
use Rattle.model.specs.Dimacs.{uncommented, head_word, head_of, read_edges, file_of, once_after, kept_once, importing, ImportRight}
use Rattle.model.proofs.Links.{Within}
use Rattle.model.proofs.Outcomes.{never, promised}
use Rattle.model.proofs.Dimacs.{of_head_taken, edges_sound, once_fresh, once_few, import_right}
use Rattle.survey_reading.proofs.ReadLaws.{AreNew, Cleared, cleared_own, same_s, same_x, read_refused, LinksRead, links_read}
use Rattle.survey_reading_lines.specs.LinesRead.{Told}

-- the links that the edge lines name, each kept once
abbrev pub kept_links : (n m : ℕ) → List ℕ → Outcome (List (ℕ × ℕ))
kept_links n m text = map_answer (once_after []) (read_edges n m text)

-- they are all new, and not more than the lines
pub kept_new : (n m : ℕ) (text : List ℕ) (ls : List (ℕ × ℕ)) → kept_links n m text ≡ answered ls → AreNew n m ls
kept_new n m text ls e = at (read_edges n m text) refl e
  where
    at : (o : Outcome (List (ℕ × ℕ))) → read_edges n m text ≡ o → map_answer (once_after []) o ≡ answered ls → AreNew n m ls
    at (refused k) h e = never e
    at (answered ks) h e =
        let r = edges_sound n m text ks h in
        let i : once_after [] ks ≡ ls = cc in
        rw (← i) (record { fresh = once_fresh n [] ks r.edges; few = omega (arith, once_few [] ks, r.count) })

-- what the file says is kept once
once : (o : Outcome (ℕ × ℕ × List ℕ))
    → map_answer kept_once (and_then o (λ f. parsed f.0 (read_edges f.0 f.1 f.2))) ≡ and_then o (λ f. parsed f.0 (kept_links f.0 f.1 f.2))
unfolding parsed
once (refused k) = refl
once (answered f) = at (read_edges f.0 f.1 f.2)
  where
    at : (o : Outcome (List (ℕ × ℕ))) → map_answer kept_once (parsed f.0 o) ≡ parsed f.0 (map_answer (once_after []) o)
    at (refused k) = refl
    at (answered ls) = refl

-- the whole file, by what its first line says, read into lists that were cleared
module _ (text : List ℕ) {s₀ x₀ s x : List ℕ} (z : Cleared s₀ x₀ s x) where
  abbrev head : Outcome (ℕ × ℕ × List ℕ)
  head = head_of (length s) (length x) (two_line head_word 32 (uncommented text))

  judged : importing text (length s) (length x)
      ≡ reading_of (length s) (length x) (and_then head (λ f. parsed f.0 (kept_links f.0 f.1 f.2)))
  unfolding importing file_of
  judged = ap (reading_of (length s) (length x)) (once head)

  -- the first line refuses
  pub head_refused : (r : Refusal) → refused (number r) ≡ head → read_returned (Err r) s x ≡ importing text (length s₀) (length x₀)
  head_refused r told = rw (← same_s z, ← same_x z, judged, ← told) (read_refused _ _ r (cleared_own z).0 (cleared_own z).1)

  -- it counts n nodes and m lines
  module _ (n m at : ℕ) (told : answered (n, m, uncommented (drop at text)) ≡ head) where
    pub counts_within : Within 1024 16384 (length s) (length x) n m
    counts_within =
        (of_head_taken (length s) (length x) (two_line head_word 32 (uncommented text)) (n, m, uncommented (drop at text)) (sym told)).1

    pub head_read : {r : AfterReading} → r ≡ reading_of (length s) (length x) (parsed n (kept_links n m (uncommented (drop at text))))
        → r ≡ importing text (length s₀) (length x₀)
    head_read h = rw (← same_s z, ← same_x z, judged, ← told) h

-- i links were kept of edge lines that were read into a matrix
pub edges_read : (n m p q i : ℕ) (text ws : List ℕ) → n ≤ 1024 → m ≤ 16384 → 2 * m ≤ q → Told (kept_links n m text) (Ok i) ws
    → LinksRead n p q (kept_links n m text) i ws
edges_read n m p q i text ws size most room = links_read n m p q (kept_links n m text) i ws size most room (kept_new n m text)

-- the call's two promises
pub import_is : (text : List ℕ) (p q : ℕ) {r : AfterReading} → r ≡ importing text p q → (r ≡ importing text p q) × ImportRight text r
import_is text p q e = promised (ImportRight text) (import_right text p q) e
