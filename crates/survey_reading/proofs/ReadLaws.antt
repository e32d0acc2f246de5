-- How the matrix gives the two lists that reading states, and what a whole text gives.
-- Assumes nothing.
use mathlib.Core.Path.{◌≡◌, refl, sym, ap, ◌∙◌, subst}
use mathlib.Core.List.{List, []}
use Prim.Native.Nat.{ℕ, ◌*◌, ◌≤◌, ◌<◌}
use native.Mathlib.Omega.{arith}
use lib.Dec.{T}
use lib.ListN.{length, drop, replicate, length-replicate}
use Rattle.std.proofs.lemmas.Bool.{false≢true}
use Rattle.base_lists.proofs.Filling.{filled_own}
use Rattle.model.specs.Answers.{Outcome, refused, answered, number}
use Rattle.model.specs.declared.Refusal.{Refusal}
use Rattle.std.specs.Prelude.{Ok, Err, is_ok}
use Rattle.model.specs.Basics.{up_to, has, over}
use Rattle.model.specs.SurveyText.{line}
use Rattle.model.specs.Reading.{named, read_links, parsed, counts_of, parse_links, parse, graph_of, starts_of, neighbours_from}
use Rattle.model.specs.Reading.{AfterReading, read_returned, reading_of, reading}
use Rattle.model.proofs.Lists.{keep_same, keep_below, of_up_to}
use Rattle.model.proofs.Links.{Within, AllFresh, of_first_taken}
use Rattle.model.specs.Demand.{ReadRight}
use Rattle.model.proofs.Outcomes.{promised}
use Rattle.model.proofs.ReadBack.{named_below, reading_right}
use Rattle.model.proofs.SurveyLists.{neighbours_length, starts_same, neighbours_same}
use Rattle.model.proofs.Totals.{links_total}
use Rattle.base_nodeset.specs.Matrix.{edges_in}
use Rattle.survey_reading_lines.specs.LinesRead.{Holds, Told}
use Rattle.survey_reading_lists.specs.MatrixRows.{rows_in}

-- lists that are all zero, as a refusal leaves them
pub read_refused : (p q : ℕ) (r : Refusal) {s x : List ℕ} → s ≡ replicate p 0 → x ≡ replicate q 0
    → read_returned (Err r) s x ≡ reading_of p q (refused (number r))
unfolding reading_of
read_refused p q r hs hx = rw (hs, hx)

-- ---- the two lists

-- the matrix has the rows of the links' graph
module _ (n : ℕ) (size : n ≤ 1024) (ws : List ℕ) (ls : List (ℕ × ℕ)) (held : Holds ws ls) (fresh : AllFresh n [] ls) where
  rows_same : (v : ℕ) → v < n → rows_in ws v ≡ graph_of n ls v
  unfolding rows_in graph_of
  rows_same v h =
      keep_same _ (named ls v) _ (λ u k t. subst T (says _ k) t) (λ u k t. subst T (sym (says _ k)) t)
      ∙ keep_below (named ls v) n _ size (λ u t. (named_below _ _ [] fresh _ _ t).1)
    where
      says : (u : ℕ) → T (has u (up_to 1024)) → edges_in ws v u ≡ named ls v u
      says u k = held.says _ _ (omega arith) (of_up_to 1024 u k)

  same_starts : starts_of n (rows_in ws) ≡ starts_of n (graph_of n ls)
  same_starts = starts_same n _ (graph_of n ls) rows_same

  same_neighbours : neighbours_from n (rows_in ws) ≡ neighbours_from n (graph_of n ls)
  same_neighbours = neighbours_same n _ (graph_of n ls) rows_same

  few_entries : length (neighbours_from n (rows_in ws)) ≡ 2 * length ls
  few_entries = ap length same_neighbours ∙ neighbours_length n (graph_of n ls) ∙ links_total _ _ fresh

  lists_read : (p q : ℕ)
      → read_returned (Ok (record { nodes = n; links = length ls })) (over (starts_of n (rows_in ws)) (replicate p 0))
      (over (neighbours_from n (rows_in ws)) (replicate q 0))
      ≡ reading_of p q (answered (record { nodes = n; links = ls }))
  unfolding reading_of
  lists_read p q = rw (same_starts, same_neighbours)

-- links that are all new, and not too many
pub record AreNew (n most : ℕ) (ls : List (ℕ × ℕ)) : Type 0 where
  pub fresh : AllFresh n [] ls
  pub few : length ls ≤ most

-- i links that lines name, which say o, were read into a matrix: its lists have room in lists of p and q entries, and written over them,
-- where these are all zero, they are what reading states
pub record LinksRead (n p q : ℕ) (o : Outcome (List (ℕ × ℕ))) (i : ℕ) (ws : List ℕ) : Type 0 where
  pub room : length (neighbours_from n (rows_in ws)) ≤ q
  pub few : length (neighbours_from n (rows_in ws)) ≤ 32768
  pub is : {s x : List ℕ} → s ≡ replicate p 0 → x ≡ replicate q 0
      → read_returned (Ok (record { nodes = n; links = i })) (over (starts_of n (rows_in ws)) s) (over (neighbours_from n (rows_in ws)) x)
      ≡ reading_of p q (parsed n o)

pub links_read : (n m p q : ℕ) (o : Outcome (List (ℕ × ℕ))) (i : ℕ) (ws : List ℕ) → n ≤ 1024 → m ≤ 16384 → 2 * m ≤ q
    → ((ls : List (ℕ × ℕ)) → o ≡ answered ls → AreNew n m ls) → Told o (Ok i) ws → LinksRead n p q o i ws
unfolding parsed
links_read n m p q (refused k) i ws size most room new told = absurd told
links_read n m p q (answered ls) i ws size most room new told =
    let a = new ls refl in
    let entries = few_entries n size ws ls told.1 a.fresh in
    let count : ◌≡◌ {A = ℕ} i (length ls) = cc in
    record {
      room = omega (arith, entries, a.few);
      few = omega (arith, entries, a.few);
      is = λ hs hx. rw (count, hs, hx) (lists_read n size ws ls told.1 a.fresh p q);
    }

-- a line that refuses leaves both lists all zero
pub links_refused : (n p q : ℕ) (o : Outcome (List (ℕ × ℕ))) (r : Refusal) (ws : List ℕ) {s x : List ℕ} → s ≡ replicate p 0 → x ≡ replicate q 0
    → Told o (Err r) ws → read_returned (Err r) s x ≡ reading_of p q (parsed n o)
unfolding parsed
links_refused n p q (refused k) r ws hs hx told = read_refused p q r hs hx ∙ ap (λ (k : ℕ). reading_of p q (refused k)) told
links_refused n p q (answered ls) r ws hs hx told = absurd (false≢true (ap is_ok told.0))

-- ---- the whole text, read into lists that were cleared

pub record Cleared (s₀ x₀ s x : List ℕ) : Type 0 where
  pub starts : s ≡ replicate (length s₀) 0
  pub neighbours : x ≡ replicate (length x₀) 0

pub cleared : (s₀ x₀ : List ℕ) {s x : List ℕ} → s ≡ replicate (length s₀) 0 → x ≡ replicate (length x₀) 0 → Cleared s₀ x₀ s x
cleared s₀ x₀ a b = record { starts = a; neighbours = b }

module _ {s₀ x₀ s x : List ℕ} (z : Cleared s₀ x₀ s x) where
  pub cleared_own : (s ≡ replicate (length s) 0) × (x ≡ replicate (length x) 0)
  cleared_own = (filled_own 0 (length s₀) z.starts, filled_own 0 (length x₀) z.neighbours)

  pub same_s : length s ≡ length s₀
  same_s = ap length z.starts ∙ length-replicate _ _

  pub same_x : length x ≡ length x₀
  same_x = ap length z.neighbours ∙ length-replicate _ _

module _ (N M : ℕ) (text : List ℕ) {s₀ x₀ s x : List ℕ} (z : Cleared s₀ x₀ s x) where
  abbrev counts : Outcome (ℕ × ℕ × List ℕ)
  counts = counts_of N M (length s) (length x) (line 83 text)

  -- the first line refuses
  pub first_refused : (r : Refusal) → refused (number r) ≡ counts
      → read_returned (Err r) s x ≡ reading_of (length s₀) (length x₀) (parse N M (length s₀) (length x₀) text)
  unfolding parse parse_links
  first_refused r told = rw (← same_s z, ← same_x z, ← told) (read_refused _ _ r (cleared_own z).0 (cleared_own z).1)

  -- the first line counts n nodes and m links
  module _ (n m at : ℕ) (told : answered (n, m, drop at text) ≡ counts) where
    pub counts_within : Within N M (length s) (length x) n m
    counts_within = (of_first_taken N M (length s) (length x) (line 83 text) (n, m, drop at text) (sym told)).1

    pub first_read : {r : AfterReading} → r ≡ reading_of (length s) (length x) (parsed n (read_links n m [] (drop at text)))
        → r ≡ reading_of (length s₀) (length x₀) (parse N M (length s₀) (length x₀) text)
    unfolding parse parse_links
    first_read h = rw (← same_s z, ← same_x z, ← told) h

-- within the limits of a survey
pub read_is : (text : List ℕ) (p q : ℕ) {r : AfterReading} → r ≡ reading_of p q (parse 1024 16384 p q text)
    → (r ≡ reading text p q) × ReadRight text r
unfolding reading
read_is text p q e = promised (ReadRight text) (reading_right text p q) e
