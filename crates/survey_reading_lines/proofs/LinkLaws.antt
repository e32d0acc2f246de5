-- What reading a link line tests; and that the lines that are left still determine the result.
-- Assumes nothing.
use mathlib.Core.Path.{◌≡◌, refl, sym, ap, ap₂, ◌∙◌}
use mathlib.Core.Logic.{◌⊎◌, inl, inr}
use mathlib.Core.Bool.{Bool, true, false, ◌&&◌, ◌||◌, and_comm, or-true, or-false}
use mathlib.Core.List.{List, [], ◌∷◌}
use mathlib.Core.Option.{Option, none as missing, some}
use Prim.Native.Nat.{ℕ, suc, ◌+◌, ◌-◌, ◌*◌, ◌≤◌, ◌<◌}
use native.Mathlib.Omega.{arith}
use borrow.Author.Tests.{lt-leb, le-leb, leb-false, eq-eqb, ne_eqb}
use lib.Dec.{eqb, ltb, leb, ltb→lt}
use lib.ListN.{length, drop, replicate, length-replicate, drop_of_length-le}
use Rattle.model.specs.Answers.{Outcome, refused, answered, map_answer, number}
use Rattle.model.specs.declared.Refusal.{Refusal}
use Rattle.model.specs.declared.Refusal.TheVariants.{LineCount}
use Rattle.std.specs.Prelude.{if◌then◌else◌}
use Rattle.model.specs.Graph.{Edges}
use Rattle.model.specs.SurveyText.{line}
use Rattle.model.specs.Reading.{named, on_links, link_of, read_on, read_links}
use Rattle.model.proofs.Tests.{true_T, and_l, and_r, or_turned, of_or_false}
use Rattle.model.proofs.Loops.{drop_next}
use Rattle.model.proofs.Links.{link_taken, of_link_taken}
use Rattle.model.proofs.Outcomes.{never}
use Rattle.base_nodeset.specs.NodeSet.{member, inserted}
use Rattle.base_nodeset.proofs.Bits.{eqb_same}
use Rattle.base_nodeset.specs.Matrix.{edges_in}
use Rattle.base_nodeset.proofs.Matrix.{edge_with, edges_none}
use Rattle.survey_reading_lines.specs.LinesRead.{Holds, link_in, Told}
use Rattle.std.specs.Prelude.{Option as Found, None, Result, Ok, Err, IsErrAnd, ok_or}

-- ---- one line

pub both_below : {a b n : ℕ} → (ltb a n && ltb b n) ≡ true → (a < n) × (b < n)
both_below {a} {b} {n} e =
    let t = true_T (ltb a n && ltb b n) e in
    (ltb→lt a n (and_l (ltb a n) (ltb b n) t), ltb→lt b n (and_r (ltb a n) (ltb b n) t))

-- an error that `?` hands on
pub handed_on : {A : Type 0} (r : Result A Refusal) {e : Refusal} → IsErrAnd r (λ x. x ≡ e) → r ≡ Err e
handed_on (Ok x) h = absurd h
handed_on (Err x) h = ap Err h

-- where no line of two numbers is found, that is the error
pub malformed : {A B : Type 0} {o : Found B} {k e : Refusal} (r : Result A Refusal) → IsErrAnd r (λ x. x ≡ e) → o ≡ None → Err e ≡ ok_or o k → r ≡ Err k
malformed {B = B} {k = k} {e = e} r h n v =
    let stands : ◌≡◌ {A = Result B Refusal} (Err e) (Err k) = v ∙ ap (λ (o : Found B). ok_or o k) n in
    let same : e ≡ k = cc in
    handed_on r h ∙ ap Err same

-- one of two nodes is n or more
one_far : (a b n : ℕ) → (n ≤ a) ⊎ (n ≤ b) → (leb n a || leb n b) ≡ true
one_far a b n (inl h) = rw (le-leb n a h)
one_far a b n (inr h) = rw (le-leb n b h, or-true (leb n a))

-- what reading the next line gives, by the tests that it passes
module _ (s : List ℕ) (at n : ℕ) (E : Edges) where
  pub link_end : length s ≤ at → refused 7 ≡ link_in n E (drop at s)
  unfolding link_in
  link_end h = rw (drop_of_length-le s h)

  module _ (h : at < length s) where
    begun : link_in n E (drop at s) ≡ link_of n E (line 76 (drop at s))
    unfolding link_in
    begun = rw (drop_next _ at h)

    pub link_malformed : line 76 (drop at s) ≡ missing → refused 1 ≡ link_in n E (drop at s)
    unfolding link_of
    link_malformed l = rw (begun, l)

    module _ {a b : ℕ} {rest : List ℕ} (l : line 76 (drop at s) ≡ some (a, b, rest)) where
      pub link_far : (n ≤ a) ⊎ (n ≤ b) → refused 4 ≡ link_in n E (drop at s)
      unfolding link_of
      link_far k = rw (begun, l, one_far a b n k)

      module _ (k : (a < n) × (b < n)) where
        near : (leb n a || leb n b) ≡ false
        near = rw (lt-leb n a k.0, lt-leb n b k.1)

        pub link_loop : a ≡ b → refused 5 ≡ link_in n E (drop at s)
        unfolding link_of
        link_loop q = rw (begun, l, near, eq-eqb a b q)

        pub link_again : (a ≡ b → ⊥) → E a b ≡ true → refused 6 ≡ link_in n E (drop at s)
        unfolding link_of
        link_again q x = rw (begun, l, near, ne_eqb a b q, x)

        pub link_new : (a ≡ b → ⊥) → E a b ≡ false → answered (a, b, rest) ≡ link_in n E (drop at s)
        link_new q x =
            rw (begun, l) (sym (link_taken n E (a, b, rest) (record { below_a = k.0; below_b = k.1; different = q; new = x })))

-- ---- the links in the matrix

pub none_held : Holds (replicate 16384 0) []
unfolding named
none_held = record { long = length-replicate {A = ℕ} _ 0; says = λ a b ha hb. ap (λ (E : Edges). E a b) edges_none }

-- a link put in both ways round
pub held_more : (ws ws' ws'' : List ℕ) {ls : List (ℕ × ℕ)} (a b : ℕ) → a < 1024 → b < 1024
    → Holds ws ls → length ws'' ≡ length ws
    → member ws' ≡ inserted (member ws) (1024 * a + b) → member ws'' ≡ inserted (member ws') (1024 * b + a)
    → Holds ws'' ((a, b) ∷ ls)
unfolding named
held_more ws ws' ws'' {ls} a b ha hb h long p q = record {
  long = long ∙ h.long;
  says = λ u v hu hv.
      ap (λ (E : Edges). E u v) (edge_with ws' ws'' b a ha q)
      ∙ ap (λ (E : Edges). (eqb u b && eqb v a) || E u v) (edge_with _ _ _ _ hb p)
      ∙ ap (λ (x : Bool). (eqb u b && eqb v a) || ((eqb u a && eqb v b) || x)) (h.says u v hu hv)
      ∙ turned (eqb u b) (eqb v a) (eqb u a) (eqb v b) (named ls u v)
      ∙ ap₂ (λ (x y : Bool). (x || y) || named ls u v) (ap₂ ◌&&◌ (flip u a) (flip v b)) (ap₂ ◌&&◌ (flip v a) (flip u b));
}
  where
    flip : (x y : ℕ) → eqb x y ≡ eqb y x
    flip x y = eqb_same x y y x sym sym

    turned : (ub va ua vb : Bool) (r : Bool) → ((ub && va) || ((ua && vb) || r)) ≡ (((ua && vb) || (va && ub)) || r)
    turned ub va ua vb r =
        or_turned (ub && va) (ua && vb) r ∙ ap (λ (t : Bool). ((ua && vb) || t) || r) (and_comm ub va)

-- ---- all lines

-- links given before, in front of those that follow
unfoldable pub behind : List (ℕ × ℕ) → List (ℕ × ℕ) → List (ℕ × ℕ)
behind [] ls = ls
behind (l ∷ done) ls = behind done (l ∷ ls)

unfoldable pub after : List (ℕ × ℕ) → Outcome (List (ℕ × ℕ)) → Outcome (List (ℕ × ℕ))
after done o = map_answer (behind done) o

pub after_on : (done : List (ℕ × ℕ)) (l : ℕ × ℕ) (o : Outcome (List (ℕ × ℕ))) → after done (on_links l o) ≡ after (l ∷ done) o
unfolding after behind on_links
after_on done l (refused k) = refl
after_on done l (answered ls) = refl

-- before the first line
pub after_none : (o : Outcome (List (ℕ × ℕ))) → after [] o ≡ o
unfolding after behind
after_none (refused k) = refl
after_none (answered ls) = refl

pub behind_length : (done ls : List (ℕ × ℕ)) → length (behind done ls) ≡ length done + length ls
unfolding behind
behind_length [] ls = omega arith
behind_length (l ∷ done) ls = behind_length done (l ∷ ls) ∙ omega arith

behind_named : (done ls : List (ℕ × ℕ)) (a b : ℕ) → named (behind done ls) a b ≡ (named done a b || named ls a b)
unfolding behind named
behind_named [] ls a b = refl
behind_named (l ∷ done) ls a b =
    let X = (eqb l.0 a && eqb l.1 b) || (eqb l.0 b && eqb l.1 a) in
    behind_named done (l ∷ ls) a b ∙ or_turned (named done a b) X (named ls a b)

-- links given before, in the order of their lines
pub behind_held : {ws : List ℕ} {done : List (ℕ × ℕ)} → Holds ws done → Holds ws (behind done [])
unfolding named
behind_held {done = done} h = record {
  long = h.long;
  says = λ a b ha hb. h.says a b ha hb ∙ sym (behind_named _ _ _ _ ∙ or-false (named done a b));
}

-- the matrix, and the links given before, give the same answer to a line
module _ (n : ℕ) (done : List (ℕ × ℕ)) (E : Edges) (agree : (a b : ℕ) → a < n → b < n → E a b ≡ named done a b) where
  pub judged : (o : Option (ℕ × ℕ × List ℕ)) → link_of n (named done) o ≡ link_of n E o
  unfolding link_of
  judged missing = refl
  judged (some l) = four (leb n l.0 || leb n l.1) refl
    where
      -- the tests after that for a node of n or more
      otherwise : (given : Bool) → Outcome (ℕ × ℕ × List ℕ)
      otherwise given = if eqb l.0 l.1 then refused 5 else if given then refused 6 else answered l

      four : (x : Bool) → (leb n l.0 || leb n l.1) ≡ x
          → (if x then refused 4 else otherwise (named done l.0 l.1)) ≡ (if x then refused 4 else otherwise (E l.0 l.1))
      four true e = refl
      four false e =
          let h = of_or_false (leb n l.0) (leb n l.1) e in
          ap otherwise (sym (agree l.0 l.1 (leb-false _ l.0 h.0) (leb-false _ l.1 h.1)))

  -- what the lines behind the next one give, where m of them are left
  abbrev others : ℕ → ℕ → ℕ → List ℕ → Outcome (List (ℕ × ℕ))
  others m a b rest = read_links n m ((a, b) ∷ done) rest

  reads_on : (m : ℕ) (t : List ℕ) → read_links n (suc m) done t ≡ read_on (others m) (link_in n E t)
  unfolding read_links link_in read_on
  reads_on m [] = refl
  reads_on m (c ∷ t) = ap (read_on (others m)) (judged _)

  -- after k of m lines, the next is read, and then the others
  module _ (m k : ℕ) (h : k < m) (t : List ℕ) where
    next_read : after done (read_links n (m - k) done t) ≡ after done (read_on (others (m - (k + 1))) (link_in n E t))
    next_read =
        let j : m - k ≡ suc (m - (k + 1)) = omega arith in
        rw (j, reads_on (m - (k + 1)) t)

    next_refused : {c : ℕ} → link_in n E t ≡ refused c → after done (read_links n (m - k) done t) ≡ refused c
    unfolding read_on after
    next_refused e = next_read ∙ rw e

    next_taken : {a b : ℕ} {rest : List ℕ} → link_in n E t ≡ answered (a, b, rest)
        → after done (read_links n (m - k) done t) ≡ after ((a, b) ∷ done) (others (m - (k + 1)) a b rest)
    unfolding read_on
    next_taken {a} {b} {rest} e = next_read ∙ rw e (after_on _ _ _)

-- a link that is taken is between nodes below n
pub link_below : (n : ℕ) (E : Edges) (t : List ℕ) {a b : ℕ} {rest : List ℕ}
    → link_in n E t ≡ answered (a, b, rest) → (a < n) × (b < n)
unfolding link_in
link_below n E [] e = never e
link_below n E (c ∷ t) {a} {b} {rest} e =
    let f = (of_link_taken _ _ _ _ e).1 in
    (f.below_a, f.below_b)

-- after the last line the text must end
module _ (n m k : ℕ) (done : List (ℕ × ℕ)) (s : List ℕ) (at : ℕ) (h : m ≤ k) where
  none_left : m - k ≡ 0
  none_left = omega arith

  last_more : at < length s → after done (read_links n (m - k) done (drop at s)) ≡ refused 7
  unfolding after read_links
  last_more l = rw (none_left, drop_next _ at l)

  last_end : length s ≤ at → after done (read_links n (m - k) done (drop at s)) ≡ answered (behind done [])
  unfolding after read_links
  last_end l = rw (none_left, drop_of_length-le s l)

-- ---- what the loop over the lines keeps: k of m lines are taken, and those that are left still determine the result

pub record Progress (n m : ℕ) (s : List ℕ) (at : ℕ) (ws : List ℕ) (next k : ℕ) : Type 0 where
  pub done : List (ℕ × ℕ)
  pub counted : length done ≡ k
  pub within : k ≤ m
  pub held : Holds ws done
  pub rest : after done (read_links n (m - k) done (drop next s)) ≡ read_links n m [] (drop at s)

pub progress_none : (n m : ℕ) (s : List ℕ) (at : ℕ) {ws : List ℕ} → ws ≡ replicate 16384 0 → Progress n m s at ws at 0
progress_none n m s at e = record {
  done = [];
  counted = refl;
  within = omega arith;
  held = rw e none_held;
  rest = let z : m - 0 ≡ m = omega arith in after_none _ ∙ rw z;
}

module _ {n m : ℕ} {s : List ℕ} {at : ℕ} {ws : List ℕ} {next k : ℕ} (few : n ≤ 1024) (p : Progress n m s at ws next k) where
  agrees : (a b : ℕ) → a < n → b < n → edges_in ws a b ≡ named p.done a b
  agrees a b ha hb = p.held.says a b (omega arith) (omega arith)

  -- the next line is refused
  pub progress_refused : k < m → (r : Result ℕ Refusal) (c : Refusal) → IsErrAnd r (λ x. x ≡ c) → link_in n (edges_in ws) (drop next s) ≡ refused (number c)
      → Told (read_links n m [] (drop at s)) r ws
  progress_refused h r c i e = rw (handed_on r i, ← p.rest, next_refused n p.done (edges_in ws) agrees m k h (drop next s) e) refl

  -- it is taken, and the link put into the matrix
  pub progress_taken : k < m → {a b : ℕ} (e : ℕ) (ws' : List ℕ) → link_in n (edges_in ws) (drop next s) ≡ answered (a, b, drop e s)
      → ((ls : List (ℕ × ℕ)) → Holds ws ls → Holds ws' ((a, b) ∷ ls)) → Progress n m s at ws' e (k + 1)
  progress_taken h {a} {b} e ws' l more = record {
    done = (a, b) ∷ p.done;
    counted = omega (arith, p.counted);
    within = omega arith;
    held = more p.done p.held;
    rest = sym (next_taken n p.done (edges_in ws) agrees m k h (drop next s) l) ∙ p.rest;
  }

  -- all lines are taken, and the text goes on
  pub progress_more : m ≤ k → next < length s → Told (read_links n m [] (drop at s)) (Err LineCount) ws
  progress_more h l = rw (← p.rest, last_more n m k p.done s next h l) refl

  -- or ends
  pub progress_done : m ≤ k → length s ≤ next → Told (read_links n m [] (drop at s)) (Ok m) ws
  progress_done h l =
      rw (← p.rest, last_end n m k p.done s next h l)
      (ap Ok (omega (arith, p.within, p.counted, behind_length p.done [])), behind_held p.held)
