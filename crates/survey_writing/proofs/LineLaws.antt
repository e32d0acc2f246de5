-- A survey's text, row by row and line by line, in a form.
-- Assumes nothing.
use mathlib.Core.Path.{◌≡◌, refl, sym, ap, ap₂, ◌∙◌}
use mathlib.Core.List.{List, [], ◌∷◌, ◌++◌, append-nil}
use Prim.Native.Nat.{ℕ, ◌+◌, ◌-◌, ◌*◌, ◌/◌, ◌≤◌, ◌<◌}
use native.Mathlib.Nat.{sub-zero}
use native.Mathlib.Omega.{arith}
use borrow.Author.Tests.{lt-ltb, le-ltb}
use lib.ListN.{length, get_or, drop, length-append, drop_of_length-le}
use Rattle.model.specs.declared.Refusal.{Refusal}
use Rattle.model.specs.declared.Refusal.TheVariants.{ShortBuffer}
use Rattle.std.specs.Prelude.{Ok, Err}
use Rattle.model.specs.Answers.{Outcome, refused, answered, number}
use Rattle.model.specs.Basics.{from, up_to, keep, gather, over}
use Rattle.model.specs.SurveyText.{line_of, link_lines, survey_text, ordered}
use Rattle.model.specs.Survey.{Graph, neighbours_of, Accepted}
use Rattle.model.specs.Writing.{text_of, write_returned, writing_of}
use Rattle.model.specs.Dimacs.{head_line, edge_line, edge_lines, file_text, export_of}
use Rattle.model.proofs.Lists.{keep_append, gather_append, gather_gather, gather_map}
use Rattle.model.proofs.Loops.{drop_next, gather_next, gather_end}
use Rattle.model.proofs.ReadBack.{write_short, write_whole}
use Rattle.model.proofs.SurveyLists.{start_last}
use Rattle.survey_neighbours.proofs.RowLaws.{rows_of, own_length}
use Rattle.survey_writing.specs.LinkLines.{lines_of, text_as}

abbrev pub Line : Type 0
Line = ℕ → ℕ → List ℕ

-- ---- one line

module _ (line : Line) (a b : ℕ) where
  pub one_line : a < b → lines_of line a (b ∷ []) ≡ line a b
  unfolding lines_of keep gather
  one_line h = rw (lt-ltb a b h) (append-nil _)

  pub no_line : b ≤ a → lines_of line a (b ∷ []) ≡ []
  unfolding lines_of keep gather
  no_line h = rw (le-ltb a b h) refl

-- ---- the lines of a row, of which i nodes are passed

lines_append : (line : Line) (a : ℕ) (k l : List ℕ) → lines_of line a (k ++ l) ≡ lines_of line a k ++ lines_of line a l
unfolding lines_of
lines_append line a k l = rw (keep_append, gather_append)

module _ (line : Line) (a : ℕ) (l : List ℕ) (i : ℕ) where
  pub line_next : i < length l → lines_of line a (drop i l) ≡ lines_of line a (get_or l i 0 ∷ []) ++ lines_of line a (drop (i + 1) l)
  line_next h = ap (lines_of line a) (drop_next l i h) ∙ lines_append _ _ _ _

  -- the next node, b, is larger than a, or it is not
  module _ {b : ℕ} (h : i < length l) (e : b ≡ get_or l i 0) where
    next : lines_of line a (drop i l) ≡ lines_of line a (b ∷ []) ++ lines_of line a (drop (i + 1) l)
    next = rw e (line_next h)

    pub line_added : a < b → lines_of line a (drop i l) ≡ line a b ++ lines_of line a (drop (i + 1) l)
    line_added k = rw (one_line line a b k) at next

    pub line_passed : b ≤ a → lines_of line a (drop i l) ≡ lines_of line a (drop (i + 1) l)
    line_passed k = rw (no_line line a b k) at next

  pub line_end : length l ≤ i → lines_of line a (drop i l) ≡ []
  unfolding lines_of keep gather
  line_end h = ap (lines_of line a) (drop_of_length-le l h)

-- ---- the text, of which v rows are passed

module _ (line : Line) (n : ℕ) (G : Graph) where
  -- the lines of the rows from v on
  unfoldable pub rows_from : ℕ → List ℕ
  rows_from v = gather (λ a. lines_of line a (G a)) (from v (n - v))

  pub rows_next : (v : ℕ) → v < n → rows_from v ≡ lines_of line v (G v) ++ rows_from (v + 1)
  unfolding rows_from
  rows_next v h = gather_next _ _ _ h

  pub rows_end : (v : ℕ) → n ≤ v → rows_from v ≡ []
  unfolding rows_from
  rows_end v h = gather_end _ _ _ h

-- the line with the numbers of nodes and links
abbrev pub head : (first : Line) (n : ℕ) (starts : List ℕ) → List ℕ
head first n starts = first n (get_or starts n 0 / 2)

pub text_is : (first line : Line) (n : ℕ) (starts neighbours : List ℕ)
    → text_as first line n starts neighbours ≡ head first n starts ++ rows_from line n (neighbours_of starts neighbours) 0
unfolding text_as up_to rows_from
text_is first line n starts neighbours = simp sub-zero

module _ (first line : Line) (n : ℕ) (starts neighbours : List ℕ) where
  pub length_text : length (text_as first line n starts neighbours)
      ≡ length (head first n starts) + length (rows_from line n (neighbours_of starts neighbours) 0)
  length_text = ap length (text_is first line n starts neighbours) ∙ length-append (head first n starts) _

-- ---- the length of a row's lines, of which i are counted

pub record RowCounted (line : Line) (a : ℕ) (row : List ℕ) (total i : ℕ) : Type 0 where
  pub within : i ≤ length row
  pub sum : total + length (lines_of line a (drop i row)) ≡ length (lines_of line a row)
  pub few : total ≤ 24 * i

module _ {line : Line} {a : ℕ} {row : List ℕ} {total i : ℕ} (c : RowCounted line a row total i) where
  pub row_more : {r : ℕ} → i < length row → (r ≡ length (lines_of line a (get_or row i 0 ∷ []))) × (r ≤ 24)
      → RowCounted line a row (total + r) (i + 1)
  row_more h e = record {
    within = omega arith;
    sum = omega (arith, simp length-append at (ap length (line_next line a row i h)));
    few = omega arith;
  }

  module _ {b : ℕ} (h : i < length row) (e : b ≡ get_or row i 0) where
    pub row_added : {r : ℕ} → a < b → (r ≡ length (line a b)) × (r ≤ 24) → RowCounted line a row (total + r) (i + 1)
    row_added k w = record {
      within = omega arith;
      sum = omega (arith, simp length-append at (ap length (line_added line a row i h e k)));
      few = omega arith;
    }

    pub row_same : b ≤ a → RowCounted line a row total (i + 1)
    row_same k = record { within = omega arith; sum = omega (arith, ap length (line_passed line a row i h e k)); few = omega arith }

  pub row_done : length row ≤ i → (total ≡ length (lines_of line a row)) × (total ≤ 24 * length row)
  row_done h = (omega (arith, ap length (line_end line a row i h)), omega arith)

-- ---- the length of a survey's text, of which the first line and v rows are counted

pub record TextCounted (first line : Line) (n : ℕ) (starts neighbours : List ℕ) (total v : ℕ) : Type 0 where
  pub within : v ≤ n
  pub sum : total + length (rows_from line n (neighbours_of starts neighbours) v) ≡ length (text_as first line n starts neighbours)
  -- a row has no more lines than nodes
  pub few : total ≤ 29 + 24 * get_or starts v 0

module _ {n : ℕ} {starts neighbours : List ℕ} (acc : Accepted n starts neighbours) where
  -- where node v's own neighbours end
  own_end : (v : ℕ) → v < n → get_or starts v 0 + length (neighbours_of starts neighbours v) ≡ get_or starts (v + 1) 0
  own_end v h = omega (arith, own_length n starts neighbours (rows_of acc) v h, acc.lists.rising v h)

  start_few : (v : ℕ) → v ≤ n → get_or starts v 0 ≤ 32768
  start_few v h = omega (arith, start_last n starts acc.lists.rising v h, acc.lists.few_links, acc.lists.even)

  pub own_few : {v : ℕ} → v < n → length (neighbours_of starts neighbours v) ≤ 32768
  own_few {v} h = omega (arith, own_end v h, start_few (v + 1) (omega arith))

  module _ {first line : Line} {total : ℕ} where
    pub text_none : (total ≡ length (head first n starts)) × (total ≤ 29) → TextCounted first line n starts neighbours total 0
    text_none e = record { within = omega arith; sum = omega (arith, length_text first line n starts neighbours); few = omega arith }

    module _ {v : ℕ} (c : TextCounted first line n starts neighbours total v) where
      pub total_few : total ≤ 1000000
      total_few = omega (arith, start_few _ c.within)

      pub text_more : {r : ℕ} → v < n
          → (r ≡ length (lines_of line v (neighbours_of starts neighbours v))) × (r ≤ 24 * length (neighbours_of starts neighbours v))
          → TextCounted first line n starts neighbours (total + r) (v + 1)
      text_more h e = record {
        within = omega arith;
        sum = omega (arith, simp length-append at (ap length (rows_next line n (neighbours_of starts neighbours) v h)));
        few = omega (arith, own_end v h);
      }

      pub text_done : n ≤ v → total ≡ length (text_as first line n starts neighbours)
      text_done h = omega (arith, ap length (rows_end line n (neighbours_of starts neighbours) v h))

-- ---- the whole call, where acceptance answers o

module _ {o : Outcome (Unit {0})} (text buffer : List ℕ) where
  pub text_refused_lem : (r : Refusal) → refused (number r) ≡ o → write_returned (Err r) buffer ≡ writing_of o text buffer
  unfolding writing_of
  text_refused_lem r e = ap (λ (o : Outcome (Unit {0})). writing_of o text buffer) e

  module _ (e : answered tt ≡ o) where
    pub text_short : length buffer < length text → write_returned (Err ShortBuffer) buffer ≡ writing_of o text buffer
    text_short h = sym (write_short text buffer h) ∙ ap (λ (o : Outcome (Unit {0})). writing_of o text buffer) e

    pub text_whole : length text ≤ length buffer → {b : List ℕ} {k : ℕ} → b ≡ over text buffer → k ≡ length text
        → write_returned (Ok k) b ≡ writing_of o text buffer
    text_whole h i j =
        ap₂ (λ (x : List ℕ) (y : ℕ). write_returned (Ok y) x) i j
        ∙ sym (write_whole text buffer h)
        ∙ ap (λ (o : Outcome (Unit {0})). writing_of o text buffer) e

-- ---- the two forms

module _ (n : ℕ) (starts neighbours : List ℕ) where
  pub survey_text_is : text_as (line_of 83) (line_of 76) n starts neighbours ≡ text_of n starts neighbours
  unfolding text_as text_of survey_text link_lines ordered lines_of
  survey_text_is = simp (gather_gather, gather_map)

  pub file_is : text_as head_line edge_line n starts neighbours ≡ export_of n starts neighbours
  unfolding text_as export_of file_text edge_lines ordered lines_of
  file_is = simp (gather_gather, gather_map)
