-- What the lines of a file are tested for; and that the lines that are left still determine the result.
-- Assumes nothing.
use mathlib.Core.Path.{◌≡◌, refl, sym, ap, ap₂, ◌∙◌}
use mathlib.Core.Logic.{⊎_elim}
use mathlib.Core.Bool.{Bool, true, false, not, ◌&&◌, ◌||◌}
use mathlib.Core.List.{List, [], ◌∷◌, ◌++◌}
use mathlib.Core.Option.{Option, none as missing, some}
use Prim.Native.Nat.{ℕ, suc, ◌+◌, ◌-◌, ◌*◌, ◌≤◌, ◌<◌}
use native.Mathlib.Omega.{arith}
use borrow.Author.Tests.{eq-eqb, ne_eqb, le-leb, lt-leb}
use lib.Dec.{ltb, leb, leb→le}
use lib.ListN.{length, drop, replicate, length-append}
use Rattle.model.specs.Answers.{Outcome, refused, answered, map_answer, number}
use Rattle.model.specs.declared.Refusal.{Refusal}
use Rattle.model.specs.declared.Refusal.TheVariants.{FileForm}
use Rattle.std.specs.Prelude.{if◌then◌else◌}
use Rattle.model.specs.Lines.{two_line}
use Rattle.model.specs.Survey.{outside}
use Rattle.model.specs.Reading.{limits_of, named, on_links, read_on}
use Rattle.model.specs.Dimacs.{uncommented, edge_word, head_of, edge_of, read_edges, once_after}
use Rattle.model.proofs.Tests.{true_T, and_l, and_r, not_leb, lt_or}
use Rattle.model.proofs.Dimacs.{of_edge_taken}
use Rattle.base_nodeset.specs.Matrix.{edges_in}
use Rattle.survey_reading_lines.specs.LinesRead.{Holds, Told}
use Rattle.std.specs.Range.{range_inclusive_start, range_inclusive_end, range_inclusive_exhausted, range_inclusive_contains}
use Rattle.std.specs.declared.ops.RangeInclusive.{RangeInclusive}
use Rattle.std.specs.Ordering.{nat_cmp, is_le}
use Rattle.std.proofs.Common.{Less, Equal, Greater}
use Rattle.std.specs.Cmp.{nat_cmp_is}
use Rattle.std.specs.Prelude.{Some, Result, Ok, Err, IsErrAnd}
use Rattle.survey_reading_lines.proofs.LinkLaws.{handed_on, none_held, behind, behind_length, behind_held, after, after_none}
use Rattle.survey_importing_lines.specs.FileLines.{Passed, without_comments}
use Rattle.survey_importing_lines.proofs.PassingLaws.{end_passed, more_passed}

-- ---- the first line

-- the limits do not look at what comes after the line
pub limits_uncommented : (N M p q : ℕ) (f : ℕ × ℕ × List ℕ) → map_answer without_comments (limits_of N M p q f) ≡ limits_of N M p q (without_comments f)
unfolding limits_of
limits_uncommented N M p q f = at (outside N f.0) (ltb M f.1) (ltb p (f.0 + 1) || ltb q (2 * f.1))
  where
    at : (a b c : Bool)
        → map_answer without_comments (if a then refused 2 else if b then refused 3 else if c then refused 8 else answered f)
        ≡ (if a then refused 2 else if b then refused 3 else if c then refused 8 else answered (without_comments f))
    at true b c = refl
    at false true c = refl
    at false false true = refl
    at false false false = refl

module _ (p q : ℕ) {o : Option (ℕ × ℕ × List ℕ)} where
  pub head_malformed : o ≡ missing → refused 13 ≡ head_of p q o
  unfolding head_of
  head_malformed e = rw e

  pub head_read : {f : ℕ × ℕ × List ℕ} → o ≡ some f → limits_of 1024 16384 p q f ≡ head_of p q o
  unfolding head_of
  head_read e = rw e

-- ---- one line

-- both numbers are from 1 to n
abbrev pub near : (n a b : ℕ) → Bool
near n a b = (leb 1 a && leb a n) && (leb 1 b && leb b n)

pub near_both : (n a b : ℕ) → near n a b ≡ true → (1 ≤ a) × (1 ≤ b)
near_both n a b e =
    let t = true_T (near n a b) e in
    let first = and_l (leb 1 a && leb a n) (leb 1 b && leb b n) t in
    let second = and_r (leb 1 a && leb a n) (leb 1 b && leb b n) t in
    (leb→le 1 a (and_l (leb 1 a) (leb a n) first), leb→le 1 b (and_l (leb 1 b) (leb b n) second))

-- how numbers are compared in a range
le_is : (a b : ℕ) → is_le (nat_cmp a b) ≡ leb a b
le_is a b = ⊎_elim less (λ h. ⊎_elim greater (λ k. same (omega arith)) (lt_or b a)) (lt_or a b)
  where
    less : a < b → is_le (nat_cmp a b) ≡ leb a b
    less h = rw (← nat_cmp_is a b Less h, le-leb a b (omega arith)) refl

    same : a ≡ b → is_le (nat_cmp a b) ≡ leb a b
    same h = rw (← nat_cmp_is a b Equal h, le-leb a b (omega arith)) refl

    greater : b < a → is_le (nat_cmp a b) ≡ leb a b
    greater h = rw (← nat_cmp_is a b Greater h, lt-leb a b h) refl

-- the tests of the code, by a range from 1 to n
module _ (r : RangeInclusive ℕ) (n : ℕ) (start : range_inclusive_start r ≡ 1) (end : range_inclusive_end r ≡ n) (fresh : range_inclusive_exhausted r ≡ false) where
  in_nodes : (x : ℕ) → range_inclusive_contains (λ x y. Some (nat_cmp x y)) r x ≡ (leb 1 x && leb x n)
  in_nodes x = rw (start, end, fresh) (ap₂ ◌&&◌ (le_is 1 x) (le_is x n))

  pub near_tests : (a b : ℕ) {x y : Bool} → x ≡ range_inclusive_contains (λ x y. Some (nat_cmp x y)) r a → y ≡ range_inclusive_contains (λ x y. Some (nat_cmp x y)) r b
      → (x && y) ≡ near n a b
  near_tests a b e f = ap₂ ◌&&◌ (e ∙ in_nodes a) (f ∙ in_nodes b)

near_is : (n a b : ℕ) → (outside n a || outside n b) ≡ not (near n a b)
near_is n a b =
    ap₂ ◌||◌ (ap₂ ◌||◌ (sym (not_leb a 1)) (sym (not_leb n a))) (ap₂ ◌||◌ (sym (not_leb b 1)) (sym (not_leb n b)))
    ∙ at (leb 1 a) (leb a n) (leb 1 b) (leb b n)
  where
    at : (p q r u : Bool) → ((not p || not q) || (not r || not u)) ≡ not ((p && q) && (r && u))
    at false q r u = refl
    at true false r u = refl
    at true true false u = refl
    at true true true false = refl
    at true true true true = refl

-- what reading the next line gives, by the tests that it passes
module _ (n : ℕ) {o : Option (ℕ × ℕ × List ℕ)} where
  pub edge_malformed : o ≡ missing → refused 13 ≡ edge_of n o
  unfolding edge_of
  edge_malformed e = rw e

  module _ {a b : ℕ} {rest : List ℕ} (e : o ≡ some (a, b, rest)) where
    pub edge_far : near n a b ≡ false → refused 4 ≡ edge_of n o
    unfolding edge_of
    edge_far k = rw (e, near_is n a b, k) refl

    module _ (k : near n a b ≡ true) where
      pub edge_loop : a ≡ b → refused 5 ≡ edge_of n o
      unfolding edge_of
      edge_loop i = rw (e, near_is n a b, k, eq-eqb a b i) refl

      pub edge_new : (a ≡ b → ⊥) → answered (a - 1, b - 1, rest) ≡ edge_of n o
      unfolding edge_of
      edge_new i = rw (e, near_is n a b, k, ne_eqb a b i) refl

-- ---- all lines

-- the links that a link adds to those that were kept
abbrev pub added : List (ℕ × ℕ) → ℕ → ℕ → List (ℕ × ℕ)
added done a b = once_after done ((a, b) ∷ [])

module _ (done : List (ℕ × ℕ)) (a b : ℕ) where
  added_none : named done a b ≡ true → added done a b ≡ []
  unfolding once_after
  added_none h = rw h refl

  added_one : named done a b ≡ false → added done a b ≡ (a, b) ∷ []
  unfolding once_after
  added_one h = rw h refl

  pub added_few : length (added done a b) ≤ 1
  unfolding once_after
  added_few = at (named done a b)
    where
      one : List (ℕ × ℕ)
      one = (a, b) ∷ []

      at : (t : Bool) → length (if t then [] else one) ≤ 1
      at true = omega arith
      at false = omega arith

  -- the lines after it
  added_on : (o : Outcome (List (ℕ × ℕ)))
      → after (added done a b ++ done) (map_answer (once_after (added done a b ++ done)) o) ≡ after done (map_answer (once_after done) (on_links (a, b) o))
  unfolding once_after on_links after behind
  added_on (refused k) = refl
  added_on (answered ls) = ap answered (at (named done a b))
    where
      one : List (ℕ × ℕ)
      one = (a, b) ∷ []

      at : (t : Bool) → (let new = (if t then [] else one) in
          behind (new ++ done) (once_after (new ++ done) ls) ≡ behind done (if t then once_after done ls else (a, b) ∷ once_after ((a, b) ∷ done) ls))
      at true = refl
      at false = refl

-- the matrix shows whether a link is new
module _ {ws : List ℕ} {done : List (ℕ × ℕ)} (held : Holds ws done) {a b : ℕ} (ha : a < 1024) (hb : b < 1024) where
  pub keep_none : edges_in ws a b ≡ true → (0 ≡ length (added done a b)) × Holds ws (added done a b ++ done)
  keep_none e = rw (added_none done a b (sym (held.says a b ha hb) ∙ e)) (refl, held)

  pub keep_one : edges_in ws a b ≡ false → {ws' : List ℕ} → Holds ws' ((a, b) ∷ done)
      → (1 ≡ length (added done a b)) × Holds ws' (added done a b ++ done)
  keep_one e h = rw (added_one done a b (sym (held.says a b ha hb) ∙ e)) (refl, h)

-- what the loop over the lines keeps: k of m lines are read, and those that are left still determine the result
pub record Progress (n m : ℕ) (s : List ℕ) (at : ℕ) (ws : List ℕ) (next kept k : ℕ) : Type 0 where
  pub done : List (ℕ × ℕ)
  pub counted : kept ≡ length done
  pub fewer : kept ≤ k
  pub within : k ≤ m
  pub held : Holds ws done
  pub rest : after done (map_answer (once_after done) (read_edges n (m - k) (uncommented (drop next s))))
      ≡ map_answer (once_after []) (read_edges n m (uncommented (drop at s)))

pub progress_none : (n m : ℕ) (s : List ℕ) (at : ℕ) {ws : List ℕ} → ws ≡ replicate 16384 0 → Progress n m s at ws at 0 0
progress_none n m s at e = record {
  done = [];
  counted = refl;
  fewer = omega arith;
  within = omega arith;
  held = rw e none_held;
  rest = let z : m - 0 ≡ m = omega arith in after_none _ ∙ rw z refl;
}

module _ {n m : ℕ} {s : List ℕ} {at : ℕ} {ws : List ℕ} {next kept k : ℕ} (p : Progress n m s at ws next kept k) where
  abbrev left : List ℕ
  left = uncommented (drop next s)

  abbrev result : Outcome (List (ℕ × ℕ))
  result = map_answer (once_after []) (read_edges n m (uncommented (drop at s)))

  module _ (h : k < m) where
    next_read : read_edges n (m - k) left ≡ read_on (λ a b rest. read_edges n (m - (k + 1)) rest) (edge_of n (two_line edge_word 32 left))
    unfolding read_edges
    next_read = let j : m - k ≡ suc (m - (k + 1)) = omega arith in rw j refl

    -- the next line is refused
    pub progress_refused : (r : Result ℕ Refusal) (c : Refusal) → IsErrAnd r (λ x. x ≡ c) → edge_of n (two_line edge_word 32 left) ≡ refused (number c) → Told result r ws
    unfolding read_on after
    progress_refused r c i e = rw (handed_on r i, ← p.rest, next_read, e) refl

    -- it names a link
    named_next : {a b : ℕ} {t : List ℕ} → edge_of n (two_line edge_word 32 left) ≡ answered (a, b, t)
        → read_edges n (m - k) left ≡ on_links (a, b) (read_edges n (m - (k + 1)) t)
    unfolding read_on
    named_next l = rw (next_read, l) refl

    pub progress_taken : {a b : ℕ} (e : ℕ) {ws' : List ℕ} {more : ℕ} → edge_of n (two_line edge_word 32 left) ≡ answered (a, b, uncommented (drop e s))
        → ((ls : List (ℕ × ℕ)) → Holds ws ls → (more ≡ length (added ls a b)) × Holds ws' (added ls a b ++ ls))
        → Progress n m s at ws' e (kept + more) (k + 1)
    progress_taken {a} {b} e l keep =
        let done = p.done in
        let new = keep done p.held in
        let few = added_few done a b in
        record {
          done = added done a b ++ done;
          counted = omega (arith, new.0, p.counted, length-append (added done a b) done);
          fewer = omega (arith, new.0, few, p.fewer);
          within = omega arith;
          held = new.1;
          rest = added_on done a b _ ∙ sym (ap (λ (o : Outcome (List (ℕ × ℕ))). after done (map_answer (once_after done) o)) (named_next l)) ∙ p.rest;
        }

  -- all lines are read: what comes after the comments
  module _ (h : m ≤ k) {e : ℕ} (c : Passed s next e) where
    none_left : m - k ≡ 0
    none_left = omega arith

    pub progress_more : e < length s → Told result (Err FileForm) ws
    unfolding read_edges after
    progress_more l = let b = more_passed c l in rw (← p.rest, none_left, b.2) refl

    pub progress_done : length s ≤ e → Told result (Ok kept) ws
    unfolding read_edges after once_after
    progress_done l =
        rw (← p.rest, none_left, end_passed c l)
        (ap Ok (omega (arith, p.counted, behind_length p.done [])), behind_held p.held)

-- an edge that is taken is between nodes below n
pub edge_below : (n : ℕ) (o : Option (ℕ × ℕ × List ℕ)) {a b : ℕ} {rest : List ℕ} → edge_of n o ≡ answered (a, b, rest) → (a < n) × (b < n)
edge_below n o {a} {b} {rest} e = let f = (of_edge_taken n o (a, b, rest) e).1 in (f.below_a, f.below_b)
