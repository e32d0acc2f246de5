-- The link lines. Reading accepts them exactly where each line names a link that is new.
-- Assumes nothing.
use mathlib.Core.Path.{◌≡◌, refl, sym, ap, ap₂, ◌∙◌, subst}
use mathlib.Core.Bool.{Bool, false}
use mathlib.Core.List.{List, [], ◌∷◌, ◌++◌}
use mathlib.Core.Option.{Option, none as missing, some}
use Prim.Native.Nat.{ℕ, zero, suc, ◌+◌, ◌*◌, ◌^◌, ◌≤◌, ◌<◌}
use native.Mathlib.Nat.{lt_of_lt_of_le, lt_of_le_of_lt}
use native.Mathlib.Omega.{arith}
use borrow.Author.Tests.{lt-leb, leb-false, ne_eqb, le-ltb, ltb-false, eqb-false}
use lib.ListN.{length}
use Rattle.model.specs.Answers.{Outcome, answered}
use Rattle.model.specs.Basics.{gather}
use Rattle.model.specs.SurveyText.{line, line_of, link_lines, survey_text}
use Rattle.model.specs.Reading.{limit_refusals, limits_of, named, on_links, link_refusals, link_of, read_on, read_links, Parsed, parsed, counts_of, parse_links, parse}
use Rattle.model.proofs.Outcomes.{never, judged_none, of_then, of_mapped}
use Rattle.model.proofs.Tests.{or-false, of_or_false}
use Rattle.model.proofs.Acceptance.{in_range, of_in_range}
use Rattle.model.proofs.Lines.{line_complete, line_sound}

-- a link that can be given after those of `given`
pub record Fresh (n : ℕ) (given : ℕ → ℕ → Bool) (a b : ℕ) : Type 0 where
  pub below_a : a < n
  pub below_b : b < n
  pub different : a ≡ b → ⊥
  pub new : given a b ≡ false

-- each of the links can be given after those before it
abbrev pub AllFresh : ℕ → List (ℕ × ℕ) → List (ℕ × ℕ) → Type 0
AllFresh n done [] = Unit {0}
AllFresh n done (l ∷ ls) = Fresh n (named done) l.0 l.1 × AllFresh n (l ∷ done) ls

-- ---- one line

module _ (n : ℕ) (given : ℕ → ℕ → Bool) where
  pub link_taken : (l : ℕ × ℕ × List ℕ) → Fresh n given l.0 l.1 → link_of n given (some l) ≡ answered l
  unfolding link_of
  link_taken l f =
      rw (
        or-false _ _ (lt-leb _ _ f.below_a) (lt-leb _ _ f.below_b),
        ne_eqb _ _ f.different,
        f.new,
      ) refl

  pub of_link_taken : (o : Option (ℕ × ℕ × List ℕ)) (x : ℕ × ℕ × List ℕ) → link_of n given o ≡ answered x
      → (o ≡ some x) × Fresh n given x.0 x.1
  unfolding link_of
  of_link_taken missing x e = never e
  of_link_taken (some l) x e =
      let p = judged_none (link_refusals n given l.0 l.1) _ e in
      let four = p.0.0 in
      let five = p.0.1.0 in
      let six = p.0.1.1.0 in
      let below = of_or_false _ _ four in
      let i : l ≡ x = cc p.1 in (
        ap some i,
        subst (λ (y : ℕ × ℕ × List ℕ). Fresh n given y.0 y.1) i (record {
          below_a = leb-false _ _ below.0;
          below_b = leb-false _ _ below.1;
          different = eqb-false _ _ five;
          new = six;
        }),
      )

-- ---- all lines

pub links_complete : (n : ℕ) → n ≤ 10 ^ 10 → (ls done : List (ℕ × ℕ)) → AllFresh n done ls
    → read_links n (length ls) done (link_lines ls) ≡ answered ls
unfolding read_links read_on link_lines gather line_of on_links
links_complete n le [] done f = refl
links_complete n le (l ∷ ls) done f =
    let g = f.0 in
    let next : ℕ → ℕ → List ℕ → Outcome (List (ℕ × ℕ)) = λ a b rest. read_links n (length ls) ((a, b) ∷ done) rest in
    ap (λ (o : Option (ℕ × ℕ × List ℕ)). read_on next (link_of n (named done) o))
    (line_complete _ (omega arith) _ _ (lt_of_lt_of_le g.below_a le) (lt_of_lt_of_le g.below_b le) _)
    ∙ ap (read_on next) (link_taken _ _ _ g)
    ∙ ap (on_links l) (links_complete n le ls (l ∷ done) f.1)

pub record LinesRead (n m : ℕ) (done : List (ℕ × ℕ)) (text : List ℕ) (ls : List (ℕ × ℕ)) : Type 0 where
  pub is_text : text ≡ link_lines ls
  pub count : length ls ≡ m
  pub fresh : AllFresh n done ls

pub links_sound : (n m : ℕ) (done : List (ℕ × ℕ)) (text : List ℕ) (ls : List (ℕ × ℕ)) → read_links n m done text ≡ answered ls
    → LinesRead n m done text ls
unfolding read_links read_on on_links link_lines gather line_of
links_sound n zero done [] ls e =
    let q : ◌≡◌ {A = List (ℕ × ℕ)} [] ls = cc in
    rw (← q) (record { is_text = refl; count = refl; fresh = tt })
links_sound n zero done (c ∷ text) ls e = never e
links_sound n (suc m) done [] ls e = never e
links_sound n (suc m) done (c ∷ text) ls e =
    let i = of_then (link_of n (named done) (line 76 (c ∷ text))) _ e in
    let l = i.0 in
    let j = of_mapped _ (read_links n m ((l.0, l.1) ∷ done) l.2) i.2 in
    let t = of_link_taken _ _ _ _ i.1 in
    let r = links_sound n m _ _ _ j.1 in
    rw (← j.2) (record {
      is_text =
          (line_sound _ _ _ _ _ t.0).is_text
          ∙ ap (λ (k : List ℕ). line_of 76 l.0 l.1 ++ k) {y = link_lines j.0} r.is_text;
      count = omega (arith, r.count);
      fresh = (t.1, r.fresh);
    })

-- ---- the whole text

-- counts of nodes and links within the limits, for which the lists have room
pub record Within (most_nodes most_links p q n m : ℕ) : Type 0 where
  pub some_node : 1 ≤ n
  pub size : n ≤ most_nodes
  pub few : m ≤ most_links
  pub room : n + 1 ≤ p
  pub list_room : 2 * m ≤ q

module _ (N M p q : ℕ) where
  pub first_taken : (f : ℕ × ℕ × List ℕ) → Within N M p q f.0 f.1 → counts_of N M p q (some f) ≡ answered f
  unfolding counts_of limits_of
  first_taken f w =
      let n = f.0 in
      let m = f.1 in
      rw (
        in_range _ _ w.some_node w.size,
        le-ltb _ _ w.few,
        or-false _ _ (le-ltb _ _ w.room) (le-ltb _ _ w.list_room),
      ) refl

  pub of_first_taken : (o : Option (ℕ × ℕ × List ℕ)) (x : ℕ × ℕ × List ℕ) → counts_of N M p q o ≡ answered x
      → (o ≡ some x) × Within N M p q x.0 x.1
  unfolding counts_of limits_of
  of_first_taken missing x e = never e
  of_first_taken (some f) x e =
      let n = f.0 in
      let m = f.1 in
      let passed = judged_none (limit_refusals N M p q n m) _ e in
      let two = passed.0.0 in
      let three = passed.0.1.0 in
      let eight = passed.0.1.1.0 in
      let b = of_in_range _ _ two in
      let r = of_or_false _ _ eight in
      let i : f ≡ x = cc passed.1 in (
        ap some i,
        subst (λ (y : ℕ × ℕ × List ℕ). Within N M p q y.0 y.1) i (record {
          some_node = b.0;
          size = b.1;
          few = ltb-false _ _ three;
          room = ltb-false _ _ r.0;
          list_room = ltb-false _ _ r.1;
        }),
      )

-- a text that is accepted, with lists of p and q entries: its counts are within the limits, it is the text of its links, and each is new
pub record TextRead (most_nodes most_links p q : ℕ) (text : List ℕ) (x : Parsed) : Type 0 where
  pub within : Within most_nodes most_links p q x.nodes (length x.links)
  pub is_text : text ≡ survey_text x.nodes (length x.links) x.links
  pub fresh : AllFresh x.nodes [] x.links

module _ (N M p q : ℕ) where
  pub parse_complete : N < 10 ^ 10 → M < 10 ^ 10 → (x : Parsed) (text : List ℕ) → TextRead N M p q text x → parse N M p q text ≡ answered x
  unfolding parse parse_links parsed survey_text
  parse_complete hN hM x text r =
      let n = x.nodes in
      let w = r.within in
      ap (parse N M p q) r.is_text
      ∙ ap (λ (o : Option (ℕ × ℕ × List ℕ)). parse_links (counts_of N M p q o))
      (line_complete _ (omega arith) _ _ (lt_of_le_of_lt w.size hN) (lt_of_le_of_lt w.few hM) _)
      ∙ ap parse_links (first_taken _ _ _ _ _ w)
      ∙ ap (parsed n) (links_complete _ (lt_le hN w.size) _ _ r.fresh)
    where
      lt_le : N < 10 ^ 10 → x.nodes ≤ N → x.nodes ≤ 10 ^ 10
      lt_le h k = omega arith

  pub parse_sound : (text : List ℕ) (x : Parsed) → parse N M p q text ≡ answered x → TextRead N M p q text x
  unfolding parse parse_links parsed survey_text line_of
  parse_sound text x e =
      let i = of_then (counts_of N M p q (line 83 text)) _ e in
      let f = i.0 in
      let t = of_first_taken _ _ _ _ _ _ i.1 in
      let j = of_mapped _ (read_links f.0 f.1 [] f.2) i.2 in
      let g = links_sound _ _ _ _ _ j.1 in
      rw (← j.2) (record {
        within = rw g.count t.1;
        is_text =
            (line_sound _ _ _ _ _ t.0).is_text
            ∙ ap₂ (λ (k : ℕ) (t : List ℕ). line_of 83 f.0 k ++ t) (sym g.count) g.is_text;
        fresh = g.fresh;
      })
