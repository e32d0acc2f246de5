-- The line that comes after some lines that are no comments, found line by line.
-- Assumes nothing.
use mathlib.Core.Path.{◌≡◌, refl, sym, ap, ◌∙◌}
use mathlib.Core.Bool.{Bool, true, false, ◌||◌}
use mathlib.Core.List.{List, [], ◌∷◌}
use Prim.Native.Nat.{ℕ, zero, suc, ◌+◌, ◌-◌, ◌*◌, ◌≤◌, ◌<◌}
use native.Mathlib.Omega.{arith}
use borrow.Author.Tests.{eqb-true, ltb-true, ltb-false}
use lib.Dec.{eqb, ltb}
use lib.ListN.{length, drop, length-append, length-drop}
use Rattle.std.specs.Prelude.{if◌then◌else◌}
use Rattle.model.specs.Lines.{on_first, split}
use Rattle.model.specs.Dimacs.{is_comment}
use Rattle.model.proofs.Tests.{of_or_false}
use Rattle.model.proofs.Lines.{split_none, split_at, split_some}
use Rattle.text_reading.specs.Scan.{has_byte, LineEnd}
use Rattle.text_reading.proofs.Scanning.{first_has, after_line, no_feed_left}
use Rattle.survey_importing_lines.proofs.PassingLaws.{no_comment}
use Rattle.survey_stops.specs.Stops.{kept_line}

-- ---- comments

-- a text begins with a comment where its first line is one
first_line_lem : (t : List ℕ) {l : List ℕ} {ls : List (List ℕ)} → split 10 t ≡ l ∷ ls → is_comment l ≡ is_comment t
unfolding split on_first is_comment
first_line_lem [] {l} {ls} e = let i : l ≡ [] = cc in rw i refl
first_line_lem (x ∷ t) {l} {ls} e = at (eqb x 10) refl (split_some 10 t) e
  where
    at : (b : Bool) → eqb x 10 ≡ b → ((f : List ℕ) × (fs : List (List ℕ)) × (split 10 t ≡ f ∷ fs))
        → (if b then [] ∷ split 10 t else on_first x (split 10 t)) ≡ l ∷ ls → is_comment l ≡ eqb x 99
    at true h i e =
        let j : l ≡ [] = cc in
        rw (j, eqb-true x 10 h) refl
    at false h i e =
        let k : (x ∷ i.0) ∷ i.1 ≡ l ∷ ls = sym (ap (on_first x) i.2) ∙ e in
        let j : l ≡ x ∷ i.0 = cc in
        rw j refl

-- and where its first byte is a `c`
comment_byte : (s : List ℕ) (at : ℕ) (b : Bool) → has_byte s at 99 ≡ b → is_comment (drop at s) ≡ b
unfolding is_comment
comment_byte s at true e = rw (first_has s at 99 e) refl
comment_byte s at false e = no_comment s at e

comment_long : (l : List ℕ) → is_comment l ≡ true → 1 ≤ length l
unfolding is_comment
comment_long [] e = let z : ◌≡◌ {A = ℕ} 0 1 = cc in absurd (omega arith)
comment_long (x ∷ l) e = omega arith

-- ---- one line

module _ (l rest : List ℕ) where
  -- a comment is passed
  comment_first : is_comment l ≡ true → (k : ℕ) → kept_line k (l ∷ split 10 rest) ≡ 1 + kept_line k (split 10 rest)
  unfolding kept_line
  comment_first e zero = let s = split_some 10 rest in rw (s.2, e) refl
  comment_first e (suc k) = let s = split_some 10 rest in rw (s.2, e) refl

  -- another line is counted
  kept_first : is_comment l ≡ false → (k : ℕ) → kept_line (suc k) (l ∷ split 10 rest) ≡ 1 + kept_line k (split 10 rest)
  unfolding kept_line
  kept_first e k = let s = split_some 10 rest in rw (s.2, e) refl

-- a text that ends before its line does
last_line : (k : ℕ) {s : List ℕ} {at e : ℕ} → LineEnd s at e → length s ≤ e → kept_line k (split 10 (drop at s)) ≡ 1
unfolding kept_line
last_line k {s} {at} l h = rw (split_none 10 (drop at s) (no_feed_left l h)) refl

-- no comment comes first
here : (t : List ℕ) → is_comment t ≡ false → kept_line 0 (split 10 t) ≡ 1
unfolding kept_line
here t n = let s = split_some 10 t in rw s.2 (one s.0 s.1 (first_line_lem t s.2 ∙ n))
  where
    one : (l : List ℕ) (ls : List (List ℕ)) → is_comment l ≡ false → kept_line 0 (l ∷ ls) ≡ 1
    one l [] e = refl
    one l (j ∷ ls) e = rw e refl

-- where the next line is no comment, a line is left to pass
pub lines_left : (b : Bool) (left : ℕ) → (b || ltb 0 left) ≡ true → b ≡ false → 0 < left
lines_left true left e f = let z : ◌≡◌ {A = ℕ} 0 1 = cc in absurd (omega arith)
lines_left false left e f = ltb-true 0 left e

-- ---- what the loop over the lines keeps: the line that is looked for is found from here on, with as many lines to pass as are left

pub record Passing (s : List ℕ) (k line left at : ℕ) : Type 0 where
  pub ahead : line + kept_line left (split 10 (drop at s)) ≡ 1 + kept_line k (split 10 s)
  pub fewer : left ≤ k
  -- a comment has two bytes, and another line one: so the lines can be counted
  pub bytes : 2 * line + left ≤ at + k + 2
  pub within : at ≤ length s

pub passing_none : (s : List ℕ) (k : ℕ) → Passing s k 1 k 0
passing_none s k = record { ahead = omega arith; fewer = omega arith; bytes = omega arith; within = omega arith }

module _ {s : List ℕ} {k line left at e : ℕ} (p : Passing s k line left at) (l : LineEnd s at e) (h : e < length s) where
  parted : split 10 (drop at s) ≡ l.line ∷ split 10 (drop (e + 1) s)
  parted = ap (split 10) (after_line l h) ∙ split_at 10 l.line (drop (e + 1) s) l.free

  first_is : {b : Bool} → has_byte s at 99 ≡ b → is_comment l.line ≡ b
  first_is c = first_line_lem (drop at s) parted ∙ comment_byte s at _ c

  pub end_place : at + length l.line ≡ e
  end_place = omega (arith, ap length l.is_text ∙ length-append l.line (drop e s), length-drop at s, length-drop e s)

  pub passing_comment : has_byte s at 99 ≡ true → Passing s k (line + 1) left (e + 1)
  passing_comment c =
      let comment = first_is c in
      let next = ap (kept_line left) parted ∙ comment_first l.line (drop (e + 1) s) comment left in
      record {
        ahead = omega (arith, p.ahead, next);
        fewer = p.fewer;
        bytes = omega (arith, p.bytes, end_place, comment_long l.line comment);
        within = omega arith;
      }

  pub passing_kept : has_byte s at 99 ≡ false → 0 < left → Passing s k (line + 1) (left - 1) (e + 1)
  passing_kept c some_left =
      let j : left ≡ suc (left - 1) = omega arith in
      let next : kept_line left (split 10 (drop at s)) ≡ 1 + kept_line (left - 1) (split 10 (drop (e + 1) s)) =
      ap (λ (i : ℕ). kept_line i (split 10 (drop at s))) j
      ∙ ap (kept_line (suc (left - 1))) parted
      ∙ kept_first l.line (drop (e + 1) s) (first_is c) (left - 1) in
      record {
        ahead = omega (arith, p.ahead, next);
        fewer = omega (arith, p.fewer);
        bytes = omega (arith, p.bytes, end_place);
        within = omega arith;
      }

module _ {s : List ℕ} {k line left at : ℕ} (p : Passing s k line left at) where
  -- the text ends
  pub passing_last : {e : ℕ} → LineEnd s at e → length s ≤ e → line ≡ kept_line k (split 10 s)
  passing_last l h = omega (arith, p.ahead, last_line left l h)

  -- no comment comes next, and no line is left to pass
  pub passing_here : {b : Bool} → b ≡ has_byte s at 99 → (b || ltb 0 left) ≡ false → line ≡ kept_line k (split 10 s)
  passing_here {b} is e =
      let f = of_or_false b (ltb 0 left) e in
      let z : left ≡ 0 = omega (arith, ltb-false 0 left f.1) in
      omega (arith, p.ahead, ap (λ (i : ℕ). kept_line i (split 10 (drop at s))) z, here (drop at s) (comment_byte s at false (sym is ∙ f.0)))
