-- Comments in a DIMACS edge file: what is left of a text without them, line by line; and of which texts a given one is left.
-- Assumes nothing.
use mathlib.Core.Path.{◌≡◌, refl, sym, ap, ◌∙◌, subst}
use mathlib.Core.Bool.{Bool, true, false}
use mathlib.Core.List.{List, [], ◌∷◌, ◌++◌, append_assoc, append-nil}
use mathlib.Core.Option.{Option, none as missing, some, map, bind, map-eq-some_iff}
use Prim.Native.Nat.{ℕ}
use borrow.Author.Tests.{eqb-true}
use lib.Dec.{T}
use lib.ListN.{get_or}
use Rattle.model.specs.Basics.{has, gather}
use Rattle.std.specs.Prelude.{if◌then◌else◌}
use Rattle.model.specs.Lines.{split, joined, AllFree, cut, fields_behind, with_rest, field_line}
use Rattle.model.specs.Lines.{numbers_in, number_line, two_line, number_line_of}
use Rattle.model.specs.Dimacs.{is_comment, no_comments, uncommented, item_text, comments_text}
use Rattle.model.proofs.Lists.{has_tail}
use Rattle.model.proofs.Outcomes.{no_value}
use Rattle.model.proofs.Lines.{cut_at, cut_is, cut_free, cut_none, of_cut_none}
use Rattle.model.proofs.Lines.{split_none, split_at, split_some, split_free, joined_split}
use Rattle.model.proofs.Lines.{number_body, numbers_text, numbers_whole}

-- ---- line by line

-- what has no line feed stays
pub end_stays : (l : List ℕ) → (T (has 10 l) → ⊥) → uncommented l ≡ l
unfolding uncommented no_comments joined gather
end_stays l n = rw (split_none _ _ n) (append-nil _)

-- what is left always has a field, so a line in front of it ends
kept_some : (f : List ℕ) (fs : List (List ℕ)) → (g : List ℕ) × (gs : List (List ℕ)) × (no_comments (f ∷ fs) ≡ g ∷ gs)
unfolding no_comments
kept_some f [] = (f, [], refl)
kept_some f (k ∷ fs) = at (is_comment f) (kept_some k fs)
  where
    at : (b : Bool) → ((g : List ℕ) × (gs : List (List ℕ)) × (no_comments (k ∷ fs) ≡ g ∷ gs))
        → (g : List ℕ) × (gs : List (List ℕ)) × ((if b then no_comments (k ∷ fs) else f ∷ no_comments (k ∷ fs)) ≡ g ∷ gs)
    at true i = i
    at false i = (f, no_comments (k ∷ fs), refl)

kept_joined : (l f : List ℕ) (fs : List (List ℕ)) → joined 10 (l ∷ no_comments (f ∷ fs)) ≡ l ++ 10 ∷ joined 10 (no_comments (f ∷ fs))
unfolding joined gather
kept_joined l f fs = let i = kept_some f fs in rw i.2 refl

module _ (l rest : List ℕ) (whole : T (has 10 l) → ⊥) where
  with_line : uncommented (l ++ 10 ∷ rest) ≡ joined 10 (if is_comment l then no_comments (split 10 rest) else l ∷ no_comments (split 10 rest))
  unfolding uncommented no_comments
  with_line = let s = split_some 10 rest in rw (split_at _ _ _ whole, s.2) refl

  -- a comment goes, and another line stays
  pub comment_goes : is_comment l ≡ true → uncommented (l ++ 10 ∷ rest) ≡ uncommented rest
  unfolding uncommented
  comment_goes c = with_line ∙ rw c

  line_stays : is_comment l ≡ false → uncommented (l ++ 10 ∷ rest) ≡ l ++ 10 ∷ uncommented rest
  unfolding uncommented
  line_stays c = let s = split_some 10 rest in with_line ∙ rw (c, s.2) (kept_joined _ _ _)

pub comments_go : (cs : List (List ℕ)) → AllFree 10 cs → (rest : List ℕ) → uncommented (comments_text cs ++ rest) ≡ uncommented rest
unfolding comments_text gather item_text is_comment has
comments_go [] a rest = refl
comments_go (c ∷ cs) a rest =
    ap uncommented (append_assoc (99 ∷ (c ++ 10 ∷ [])) _ _ ∙ append_assoc (99 ∷ c) _ _)
    ∙ comment_goes (99 ∷ c) _ a.0 refl
    ∙ comments_go cs a.1 rest

-- ---- the first line of a text that begins with no comment

-- a text begins with a comment where its first line is one
first_comment : (l rest : List ℕ) → is_comment (l ++ 10 ∷ rest) ≡ is_comment l
unfolding is_comment
first_comment [] rest = refl
first_comment (x ∷ l) rest = refl

-- what is read off a line, with what is left behind it
behind_left : {A : Type 0} → Option (A × List ℕ) → Option (A × List ℕ)
behind_left o = map (λ l. (l.0, uncommented l.1)) o

read_left : {A B : Type 0} (k : A → Option B) (o : Option (A × List ℕ))
    → bind (behind_left o) (λ l. with_rest l.1 (k l.0)) ≡ behind_left (bind o (λ l. with_rest l.1 (k l.0)))
unfolding bind behind_left
read_left k missing = refl
read_left {B = B} k (some l) = at (k l.0)
  where
    at : (o : Option B) → with_rest (uncommented l.1) o ≡ behind_left (with_rest l.1 o)
    at missing = refl
    at (some x) = refl

module _ (t : List ℕ) (n : is_comment t ≡ false) where
  first_left : (l rest : List ℕ) → cut 10 t ≡ some (l, rest) → uncommented t ≡ l ++ 10 ∷ uncommented rest
  first_left l rest e =
      let is = cut_is _ _ _ _ e in
      ap uncommented is ∙ line_stays _ _ (cut_free _ _ _ _ e) (sym (first_comment _ _) ∙ ap is_comment (sym is) ∙ n)

  cut_uncommented : cut 10 (uncommented t) ≡ map (λ p. (p.0, uncommented p.1)) (cut 10 t)
  unfolding behind_left
  cut_uncommented = at (cut 10 t) refl
    where
      at : (o : Option (List ℕ × List ℕ)) → cut 10 t ≡ o → cut 10 (uncommented t) ≡ behind_left o
      at missing e = ap (cut 10) (end_stays _ (of_cut_none _ _ e)) ∙ e
      at (some p) e = ap (cut 10) (first_left _ _ e) ∙ cut_at _ _ _ (cut_free _ _ _ _ e)

  pub two_uncommented : (word : List ℕ) (c : ℕ)
      → two_line word c (uncommented t) ≡ map (λ l. (l.0, l.1, uncommented l.2)) (two_line word c t)
  unfolding two_line number_line field_line behind_left
  two_uncommented word c =
      rw (cut_uncommented, read_left (fields_behind word c) _, read_left (numbers_in 2) _)
      (at (number_line word c 2 t))
    where
      two : List ℕ × List ℕ → ℕ × ℕ × List ℕ
      two l = (get_or l.0 0 0, get_or l.0 1 0, l.1)

      at : (o : Option (List ℕ × List ℕ))
          → map two (behind_left o) ≡ map (λ l. (l.0, l.1, uncommented l.2)) (map two o)
      at missing = refl
      at (some l) = refl

-- a text without a line feed, a comment too, begins with no line
pub unended : (word : List ℕ) (c : ℕ) (t : List ℕ) → (T (has 10 t) → ⊥) → two_line word c (uncommented t) ≡ missing
unfolding two_line number_line field_line bind
unended word c t n = rw (end_stays _ n, cut_none _ _ n) refl

-- a byte that begins no comment stays in front
pub first_stays : (x : ℕ) (t : List ℕ) → is_comment (x ∷ t) ≡ false → (r : List ℕ) × (uncommented (x ∷ t) ≡ x ∷ r)
first_stays x t n = at (cut 10 (x ∷ t)) refl
  where
    ahead : (l rest : List ℕ) → x ∷ t ≡ l ++ 10 ∷ rest → (r : List ℕ) × (l ++ 10 ∷ uncommented rest ≡ x ∷ r)
    ahead [] rest e = let i : x ≡ 10 = cc in (uncommented rest, rw i refl)
    ahead (y ∷ l) rest e = let i : x ≡ y = cc in (l ++ 10 ∷ uncommented rest, rw i refl)

    at : (o : Option (List ℕ × List ℕ)) → cut 10 (x ∷ t) ≡ o → (r : List ℕ) × (uncommented (x ∷ t) ≡ x ∷ r)
    at missing e = (t, end_stays _ (of_cut_none _ _ e))
    at (some p) e =
        let r = ahead p.0 _ (cut_is _ _ _ _ e) in
        (r.0, first_left _ n _ _ e ∙ r.1)

-- ---- of which texts a given one is left

-- a text as comments and what comes behind them, whose first line is none
record Skipped (text : List ℕ) : Type 0 where
  comments : List (List ℕ)
  one_lines : AllFree 10 comments
  rest : List ℕ
  is_text : text ≡ comments_text comments ++ rest
  no_more : cut 10 (uncommented rest) ≡ map (λ p. (p.0, uncommented p.1)) (cut 10 rest)

-- a comment begins with `c`
comment_first : (f : List ℕ) → is_comment f ≡ true → (c : List ℕ) × (f ≡ 99 ∷ c)
unfolding is_comment
comment_first [] e = absurd (subst T (sym e) tt)
comment_first (x ∷ f) e = (f, ap (λ (y : ℕ). y ∷ f) (eqb-true _ _ e))

skip_lines : (f : List ℕ) (fs : List (List ℕ)) → AllFree 10 (f ∷ fs) → Skipped (joined 10 (f ∷ fs))
unfolding joined gather comments_text item_text
skip_lines f [] a =
    let n : T (has 10 (f ++ [])) → ⊥ = rw append-nil a.0 in
    record {
      comments = [];
      one_lines = tt;
      rest = f ++ [];
      is_text = refl;
      no_more = rw (end_stays _ n, cut_none _ _ n) refl;
    }
skip_lines f (k ∷ fs) a = at (is_comment f) refl (skip_lines k fs a.1)
  where
    comment_ahead : (c : List ℕ) → f ≡ 99 ∷ c → Skipped (joined 10 (k ∷ fs)) → Skipped (joined 10 (f ∷ k ∷ fs))
    comment_ahead c e r = record {
      comments = c ∷ r.comments;
      one_lines = (λ t. a.0 (rw e (has_tail _ _ _ t)), r.one_lines);
      rest = r.rest;
      is_text = rw (e, r.is_text) (simp append_assoc);
      no_more = r.no_more;
    }

    at : (b : Bool) → is_comment f ≡ b → Skipped (joined 10 (k ∷ fs)) → Skipped (joined 10 (f ∷ k ∷ fs))
    at true h r = let c = comment_first _ h in comment_ahead _ c.1 r
    at false h r = record {
      comments = [];
      one_lines = tt;
      rest = joined 10 (f ∷ k ∷ fs);
      is_text = refl;
      no_more = cut_uncommented _ (first_comment _ _ ∙ h);
    }

skipped : (text : List ℕ) → Skipped text
skipped text =
    let s = split_some 10 text in
    subst Skipped (sym (ap (joined 10) s.2) ∙ joined_split _ _) (skip_lines _ _ (subst (AllFree 10) s.2 (split_free _ _)))

behind_left_lem : {text : List ℕ} (s : Skipped text) → uncommented s.rest ≡ uncommented text
behind_left_lem s = sym (ap uncommented s.is_text ∙ comments_go _ s.one_lines _)

-- a text whose first line that is no comment is `line`, with what is left of the text after it
pub record FirstLine (text line left : List ℕ) : Type 0 where
  pub comments : List (List ℕ)
  pub one_lines : AllFree 10 comments
  pub rest : List ℕ
  pub is_text : text ≡ comments_text comments ++ (line ++ rest)
  pub is_left : uncommented rest ≡ left

first_line_lem : (text l left : List ℕ) → (T (has 10 l) → ⊥) → uncommented text ≡ l ++ 10 ∷ left → FirstLine text (l ++ 10 ∷ []) left
first_line_lem text l left n e =
    let s = skipped text in
    let i = (map-eq-some_iff {B = List ℕ × List ℕ} (λ p. (p.0, uncommented p.1)) (cut 10 s.rest)).0
    (sym s.no_more ∙ ap (cut 10) (behind_left_lem s ∙ e) ∙ cut_at _ _ _ n) in
    let p = i.0 in
    record {
      comments = s.comments;
      one_lines = s.one_lines;
      rest = p.1;
      is_text =
          s.is_text
          ∙ ap (λ (r : List ℕ). comments_text s.comments ++ r) (
          cut_is _ _ _ _ i.1
          ∙ ap (λ (q : List ℕ × List ℕ). q.0 ++ 10 ∷ p.1) i.2
          ∙ sym (append_assoc l _ _)
          );
      is_left = ap (λ (q : List ℕ × List ℕ). q.1) i.2;
    }

-- a text of which nothing is left is comments
pub only_comments : (text : List ℕ) → uncommented text ≡ [] → (cs : List (List ℕ)) × AllFree 10 cs × (text ≡ comments_text cs)
unfolding cut behind_left
only_comments text e =
    let none = at (cut 10 s.rest) refl (sym s.no_more ∙ ap (cut 10) (behind_left_lem s ∙ e)) in
    (s.comments, s.one_lines, s.is_text ∙ rw none (append-nil _))
  where
    s : Skipped text
    s = skipped text

    at : (o : Option (List ℕ × List ℕ)) → cut 10 s.rest ≡ o → behind_left o ≡ missing → s.rest ≡ []
    at missing h f = sym (end_stays _ (of_cut_none _ _ h)) ∙ behind_left_lem s ∙ e
    at (some p) h f = no_value (sym f)

-- ---- the same of a line of numbers

module _ (word : List ℕ) (c : ℕ) (whole : T (has 10 word) → ⊥) (other : c ≡ 10 → ⊥) (xs : List ℕ) where
  pub numbers_stay : is_comment (number_body word c xs) ≡ false → (rest : List ℕ)
      → uncommented (number_line_of word c xs ++ rest) ≡ number_line_of word c xs ++ uncommented rest
  numbers_stay n rest =
      ap uncommented (numbers_text word c xs _)
      ∙ line_stays _ _ (numbers_whole _ _ whole other xs) n
      ∙ sym (numbers_text word c xs _)

  pub first_numbers : (text left : List ℕ) → uncommented text ≡ number_line_of word c xs ++ left → FirstLine text (number_line_of word c xs) left
  first_numbers text left e =
      subst (λ (l : List ℕ). FirstLine text l left) (sym (numbers_text word c xs []) ∙ append-nil _)
      (first_line_lem _ _ _ (numbers_whole _ _ whole other xs) (e ∙ numbers_text word c xs _))
