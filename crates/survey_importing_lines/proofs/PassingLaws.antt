-- Which line comes after the comments at a place.
-- Assumes nothing.
use mathlib.Core.Path.{◌≡◌, refl, sym, ap, ◌∙◌, subst}
use mathlib.Core.Logic.{⊎_elim}
use mathlib.Core.Bool.{true, false}
use mathlib.Core.List.{List, [], ◌∷◌, ◌++◌}
use mathlib.Core.Option.{map}
use Prim.Native.Nat.{ℕ, ◌+◌, ◌≤◌, ◌<◌}
use native.Mathlib.Omega.{arith}
use borrow.Author.Tests.{lt-ltb}
use lib.Dec.{T}
use lib.ListN.{length, get_or, drop, length-append, length-drop, drop_of_length-le}
use Rattle.model.specs.Basics.{has}
use Rattle.model.specs.Lines.{two_line}
use Rattle.model.specs.Dimacs.{is_comment, uncommented}
use Rattle.model.proofs.Tests.{lt_or}
use Rattle.model.proofs.Lists.{none_in}
use Rattle.model.proofs.Loops.{drop_next}
use Rattle.model.proofs.Comments.{comment_goes, end_stays, two_uncommented, unended, first_stays}
use Rattle.std.specs.Prelude.{Option as Found}
use Rattle.text_reading.specs.declared.Pair.{Pair}
use Rattle.text_reading.specs.Scan.{has_byte, LineEnd, found}
use Rattle.text_reading.proofs.Scanning.{first_has, after_line}
use Rattle.survey_importing_lines.specs.FileLines.{Passed, without_comments}

-- ---- a comment

module _ {s : List ℕ} {at e : ℕ} (l : LineEnd s at e) where
  -- a line that ends within the text ends after its place
  pub end_after : at < length s → e < length s → at ≤ e
  end_after h k = omega (arith, ap length l.is_text ∙ length-append l.line (drop e s), length-drop at s, length-drop e s)

  -- a comment with its end is passed
  pub comment_passed : has_byte s at 99 ≡ true → e < length s → uncommented (drop (e + 1) s) ≡ uncommented (drop at s)
  unfolding is_comment
  comment_passed c h =
      let whole = after_line l h in
      sym (ap uncommented whole ∙ comment_goes l.line (drop (e + 1) s) l.free (first l.line (sym whole ∙ first_has s at 99 c)))
    where
      first : (k : List ℕ) → k ++ 10 ∷ drop (e + 1) s ≡ 99 ∷ drop (at + 1) s → is_comment k ≡ true
      first [] i = let z : ◌≡◌ {A = ℕ} 10 99 = cc in absurd (omega arith)
      first (x ∷ k) i = let z : x ≡ 99 = cc in rw z refl

-- no comment comes next
pub no_comment : (s : List ℕ) (at : ℕ) → has_byte s at 99 ≡ false → is_comment (drop at s) ≡ false
unfolding has_byte is_comment
no_comment s at h = ⊎_elim here past (lt_or at (length s))
  where
    here : at < length s → is_comment (drop at s) ≡ false
    here l = rw (drop_next s at l) (rw (lt-ltb at (length s) l) at h)

    past : length s ≤ at → is_comment (drop at s) ≡ false
    past l = rw (drop_of_length-le s l) refl

-- ---- what comes after the comments

module _ {s : List ℕ} {at e : ℕ} (p : Passed s at e) where
  -- the line of two numbers, and what comes after it without its comments
  pub line_passed : (word : List ℕ) (c : ℕ)
      → two_line word c (uncommented (drop at s)) ≡ map without_comments (two_line word c (drop e s))
  line_passed word c =
      ap (two_line word c) (sym p.same)
      ∙ ⊎_elim (λ n. two_uncommented (drop e s) n word c) unended_line p.next
    where
      unended_line : (T (has 10 (drop e s)) → ⊥)
          → two_line word c (uncommented (drop e s)) ≡ map without_comments (two_line word c (drop e s))
      unended_line n =
          let none = unended word c (drop e s) n in
          let whole = ap (two_line word c) (sym (end_stays (drop e s) n)) ∙ none in
          rw (none, whole) refl

  -- what is found there
  pub line_found : (word : List ℕ) (c : ℕ) {o l : Found (Pair ℕ)} → o ≡ l → found s o ≡ two_line word c (drop e s)
      → two_line word c (uncommented (drop at s)) ≡ map without_comments (found s l)
  line_found word c i f = line_passed word c ∙ ap (map without_comments) (sym f ∙ ap (found s) i)

  -- the end of the text
  pub end_passed : length s ≤ e → uncommented (drop at s) ≡ []
  end_passed h = sym p.same ∙ ap uncommented (drop_of_length-le s h) ∙ end_stays [] (none_in 10)

  -- or not
  pub more_passed : e < length s → (x : ℕ) × (r : List ℕ) × (uncommented (drop at s) ≡ x ∷ r)
  more_passed h =
      let b = get_or s e 0 in
      let t = drop (e + 1) s in
      let next = drop_next s e h in
      let left = ⊎_elim
      (λ n. first_stays b t (ap is_comment (sym next) ∙ n))
      (λ n. (t, end_stays (b ∷ t) (subst (λ (k : List ℕ). T (has 10 k) → ⊥) next n)))
      p.next in
      (b, left.0, sym p.same ∙ ap uncommented next ∙ left.1)
