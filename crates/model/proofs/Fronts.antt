-- A text is read as its front is. No line has more than 24 bytes, so the first line and the link lines that the limit allows have a greatest
-- length; of what follows, reading only tests whether there is any.
-- Assumes nothing.
use mathlib.Core.Path.{◌≡◌, refl, sym, ap, ap₂, ◌∙◌}
use mathlib.Core.Bool.{Bool, true, false, ◌||◌}
use mathlib.Core.List.{List, [], ◌∷◌, ◌++◌, append_assoc}
use mathlib.Core.Option.{Option, none as missing, some}
use Prim.Native.Nat.{ℕ, zero, suc, ◌+◌, ◌-◌, ◌*◌, ◌≤◌, ◌<◌, ◌^◌}
use native.Mathlib.Omega.{arith}
use borrow.Author.Tests.{ltb-false}
use lib.Dec.{eqb, ltb, leb}
use lib.ListN.{length, take, drop, take-append-drop}
use lib.Seq.{take-append-add}
use Rattle.model.specs.Answers.{Outcome, refused, answered}
use Rattle.std.specs.Prelude.{if◌then◌else◌}
use Rattle.model.specs.SurveyText.{line, line_of}
use Rattle.model.specs.Survey.{outside}
use Rattle.model.specs.Reading.{limits_of, named, on_links, link_of, read_on, read_links, parsed, counts_of, parse_links, parse, reading_of, reading}
use Rattle.model.specs.Listing.{listing_text, listing}
use Rattle.model.proofs.Numbers.{length_le}
use Rattle.model.proofs.Outcomes.{no_value}
use Rattle.model.proofs.Lines.{length_line, line_complete, line_sound}

-- ---- one line: none in both, or the same numbers in both

pub data FrontLine (letter : ℕ) (text : List ℕ) (k : ℕ) : Type 0 where
  no_line : line letter text ≡ missing → line letter (take k text) ≡ missing → FrontLine letter text k
  same_line : (x y : ℕ) (rest : List ℕ) (j : ℕ) → k ≤ j + 24 → line letter text ≡ some (x, y, rest)
      → line letter (take k text) ≡ some (x, y, take j rest) → FrontLine letter text k

pub line_few : (letter x y : ℕ) → x < 10 ^ 10 → y < 10 ^ 10 → length (line_of letter x y) ≤ 24
line_few letter x y hx hy = omega (arith, length_line letter x y, length_le 9 x hx, length_le 9 y hy)

pub line_front : (letter : ℕ) → 44 < letter → (text : List ℕ) (k : ℕ) → 24 ≤ k → FrontLine letter text k
unfolding line_of
line_front letter after text k h = at (line letter text) refl (line letter (take k text)) refl
  where
    at : (o : Option (ℕ × ℕ × List ℕ)) → line letter text ≡ o → (f : Option (ℕ × ℕ × List ℕ)) → line letter (take k text) ≡ f
        → FrontLine letter text k
    at missing e missing g = no_line e g
    at missing e (some l) g =
        let s = line_sound _ (take k text) _ _ l.2 g in
        let whole : text ≡ line_of letter l.0 l.1 ++ (l.2 ++ drop k text) =
        sym (take-append-drop k _) ∙ ap (λ (t : List ℕ). t ++ drop k text) s.is_text
        ∙ append_assoc (line_of letter l.0 l.1) _ _ in
        no_value (sym e ∙ ap (line letter) whole ∙ line_complete _ after _ _ s.small_x s.small_y _)
    at (some l) e f g =
        let s = line_sound letter text l.0 l.1 l.2 e in
        let first : List ℕ = line_of letter l.0 l.1 in
        let few = line_few letter l.0 l.1 s.small_x s.small_y in
        let j = k - length first in
        let i : k ≡ length first + j = omega arith in
        let front : take k text ≡ first ++ take j l.2 = ap₂ take i s.is_text ∙ take-append-add first l.2 j in
        same_line l.0 l.1 l.2 j (omega arith) e
        (ap (line letter) front ∙ line_complete letter after l.0 l.1 s.small_x s.small_y (take j l.2))

-- ---- the link lines

-- the tests of a line depend on its numbers only
pub link_same : {C : Type 0} (f : Outcome (ℕ × ℕ × List ℕ) → C) (n : ℕ) (given : ℕ → ℕ → Bool) {x y : ℕ} {r r' : List ℕ}
    → f (answered (x, y, r)) ≡ f (answered (x, y, r'))
    → f (link_of n given (some (x, y, r))) ≡ f (link_of n given (some (x, y, r')))
unfolding link_of
link_same f n given {x} {y} {r} {r'} e = at (leb n x || leb n y) (eqb x y) (given x y)
  where
    at : (a b c : Bool)
        → f (if a then refused 4 else if b then refused 5 else if c then refused 6 else answered (x, y, r))
        ≡ f (if a then refused 4 else if b then refused 5 else if c then refused 6 else answered (x, y, r'))
    at true b c = refl
    at false true c = refl
    at false false true = refl
    at false false false = e

links_front : (n m : ℕ) (done : List (ℕ × ℕ)) (text : List ℕ) (k : ℕ) → 24 * m < k
    → read_links n m done (take k text) ≡ read_links n m done text
unfolding read_links read_on
links_front n zero done text zero h = absurd (omega arith)
links_front n zero done [] (suc k) h = refl
links_front n zero done (c ∷ text) (suc k) h = refl
links_front n (suc m) done text zero h = absurd (omega arith)
links_front n (suc m) done [] (suc k) h = refl
links_front n (suc m) done (c ∷ text) (suc k) h =
    at (line_front _ (omega arith) _ _ (omega arith)) (λ a b. links_front n m ((a, b) ∷ done))
  where
    next : ℕ → ℕ → List ℕ → Outcome (List (ℕ × ℕ))
    next a b rest = read_links n m ((a, b) ∷ done) rest

    at : FrontLine 76 (c ∷ text) (suc k)
        → ((a b : ℕ) (rest : List ℕ) (j : ℕ) → 24 * m < j
        → read_links n m ((a, b) ∷ done) (take j rest) ≡ read_links n m ((a, b) ∷ done) rest)
        → read_on next (link_of n (named done) (line 76 (take (suc k) (c ∷ text)))) ≡ read_on next (link_of n (named done) (line 76 (c ∷ text)))
    at (no_line e f) rec = rw (f, e)
    at (same_line x y rest j i e f) rec =
        rw (f, e) (link_same (read_on next) n (named done) (ap (on_links (x, y)) (rec x y rest j (omega arith))))

-- ---- the whole text

pub counts_same : {C : Type 0} (f : Outcome (ℕ × ℕ × List ℕ) → C) (N M p q x y : ℕ) (r r' : List ℕ)
    → (y ≤ M → f (answered (x, y, r)) ≡ f (answered (x, y, r')))
    → f (counts_of N M p q (some (x, y, r))) ≡ f (counts_of N M p q (some (x, y, r')))
unfolding counts_of limits_of
counts_same f N M p q x y r r' e = at (outside N x) (ltb M y) refl (ltb p (x + 1) || ltb q (2 * y))
  where
    at : (a b : Bool) → ltb M y ≡ b → (c : Bool)
        → f (if a then refused 2 else if b then refused 3 else if c then refused 8 else answered (x, y, r))
        ≡ f (if a then refused 2 else if b then refused 3 else if c then refused 8 else answered (x, y, r'))
    at true b m c = refl
    at false true m c = refl
    at false false m true = refl
    at false false m false = e (ltb-false _ _ m)

-- within limits, a text says what its front says
pub parse_front : (N M p q : ℕ) (text : List ℕ) (k : ℕ) → 24 * (M + 1) < k → parse N M p q (take k text) ≡ parse N M p q text
unfolding parse parse_links
parse_front N M p q text k h = at (line_front _ (omega arith) _ _ (omega arith))
  where
    at : FrontLine 83 text k → parse_links (counts_of N M p q (line 83 (take k text))) ≡ parse_links (counts_of N M p q (line 83 text))
    at (no_line e f) = rw (f, e)
    at (same_line x y rest j i e f) =
        rw (f, e) (counts_same parse_links N M p q x y _ _ (λ m. ap (parsed x) (links_front x y [] _ j (omega arith))))

-- a text is read as its first 393,241 bytes are
pub reading_front : (text : List ℕ) (p q k : ℕ) → 24 * (16384 + 1) < k → reading (take k text) p q ≡ reading text p q
unfolding reading
reading_front text p q k h = ap (reading_of p q) (parse_front 1024 16384 p q text k h)

-- and its listing is that of its first 49,177 bytes
pub listing_front : (text : List ℕ) (k : ℕ) → 24 * (2048 + 1) < k → listing (take k text) ≡ listing text
unfolding listing
listing_front text k h = ap listing_text (parse_front 128 2048 _ _ text k h)
