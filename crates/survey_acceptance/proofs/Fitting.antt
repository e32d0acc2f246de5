-- Whether a row fits, as facts; and the pass over it, node by node: what is left of the row still determines whether it fits, and the cursors of
-- the nodes passed have moved on.
-- Assumes nothing.
use mathlib.Core.Path.{◌≡◌, refl, sym, ap₂, ◌∙◌, subst}
use mathlib.Core.Logic.{⊎_elim}
use mathlib.Core.Bool.{Bool, true, false, ◌&&◌, and-true, and-false}
use mathlib.Core.List.{List, [], ◌∷◌, ◌++◌}
use Prim.Native.Nat.{ℕ, ◌+◌, ◌≤◌, ◌<◌}
use native.Mathlib.Numerals.{add-one}
use native.Mathlib.Omega.{arith}
use borrow.Author.Tests.{lt-ltb}
use lib.Bits.{bit_or, bit_xor, or_add_and, xor_add_and, and_le_l, and_le_r, xor_self}
use lib.Dec.{T, eqb, ltb, eqb→eq, ltb→lt}
use lib.ListN.{length, get_or, take, drop, set, length-set, drop_of_length-le}
use lib.Seq.{get_or-set_same, get_or-set_other, take-suc, take_all}
use Rattle.model.specs.Basics.{has, all}
use Rattle.std.specs.Prelude.{if◌then◌else◌}
use Rattle.model.specs.Survey.{ascending}
use Rattle.model.proofs.Tests.{true_T, false_no, T_true, and_l, and_r, and_i, eq_T, no_false, same_test, eq_or}
use Rattle.model.proofs.Lists.{has_head, has_append, has_later, of_append, of_single, of_all, all_of, none_in}
use Rattle.model.proofs.Loops.{drop_next}
use Rattle.model.proofs.Ascending.{ascending_above}
use Rattle.survey_acceptance.specs.Matching.{stands, row_fits, Moved}

module _ (neighbours : List ℕ) (last n v : ℕ) (cursors : List ℕ) where
  -- the test of one node of a row, and what it means
  abbrev fits : ℕ → Bool
  fits x = ltb x n && ltb (get_or cursors x 0) last && stands neighbours v x cursors

  pub record Fits (x : ℕ) : Type 0 where
    pub below : x < n
    pub before_last : get_or cursors x 0 < last
    pub found : get_or neighbours (get_or cursors x 0) 0 ≡ v

  fits_facts : (x : ℕ) → T (fits x) → Fits x
  unfolding stands
  fits_facts x t =
      let a = ltb x n in
      let b = ltb (get_or cursors x 0) last in
      let c = eqb (get_or neighbours (get_or cursors x 0) 0) v in
      let s = and_l (a && b) c t in
      record {
        below = ltb→lt x n (and_l a b s);
        before_last = ltb→lt (get_or cursors x 0) last (and_r a b s);
        found = eqb→eq (get_or neighbours (get_or cursors x 0) 0) v (and_r (a && b) c t);
      }

  fits_test : {x : ℕ} → Fits x → T (fits x)
  unfolding stands
  fits_test {x} f =
      rw (lt-ltb _ _ f.below, lt-ltb _ _ f.before_last) (eq_T (get_or neighbours (get_or cursors x 0) 0) v f.found)

  -- the whole row
  pub record RowFits (row : List ℕ) : Type 0 where
    pub order : T (ascending (v ∷ row))
    pub nodes : (x : ℕ) → T (has x row) → Fits x

-- an answer r to whether the row fits
module _ {neighbours : List ℕ} {last n v : ℕ} {cursors row : List ℕ} {r : Bool}
    (e : r ≡ row_fits neighbours last n v row cursors) where
  pub row_facts : r ≡ true → RowFits neighbours last n v cursors row
  unfolding row_fits
  row_facts q =
      let order = ascending (v ∷ row) in
      let nodes = all (fits neighbours last n v cursors) row in
      let t = true_T (order && nodes) (sym e ∙ q) in
      record {
        order = and_l order nodes t;
        nodes = λ x m. fits_facts neighbours last n v cursors x (of_all _ row (and_r order nodes t) x m);
      }

  pub row_fails : r ≡ false → RowFits neighbours last n v cursors row → ⊥
  unfolding row_fits
  row_fails q f =
      false_no (row_fits neighbours last n v row cursors) (sym e ∙ q)
      (and_i (ascending (v ∷ row)) _ f.order (all_of _ _ λ x m. fits_test neighbours last n v cursors (f.nodes x m)))

-- ---- the pass over a row

module _ (neighbours : List ℕ) (last n v : ℕ) (row cursors : List ℕ) where
  -- what is promised of the answer r and of the cursors that are left
  abbrev Judged : Bool → List ℕ → Type 0
  Judged r cursors' = (r ≡ row_fits neighbours last n v row cursors) × (r ≡ true → Moved row cursors cursors')

  -- i nodes of the row are passed: none is above `before`, their cursors have moved, and the nodes left determine whether the row fits
  pub record Passed (cursors' : List ℕ) (before wrong i : ℕ) : Type 0 where
    pub within : i ≤ length row
    pub size : length cursors' ≡ length cursors
    pub rest : (eqb wrong 0 && (ascending (before ∷ drop i row) && all (fits neighbours last n v cursors) (drop i row)))
        ≡ row_fits neighbours last n v row cursors
    pub moved : Moved (take i row) cursors cursors'
    pub most : (x : ℕ) → T (has x (take i row)) → x ≤ before

pub passed_none : {neighbours : List ℕ} {last n v : ℕ} {row cursors : List ℕ} → Passed neighbours last n v row cursors cursors v 0 0
unfolding row_fits has
passed_none = record { within = omega arith; size = refl; rest = refl; moved = λ x. refl; most = λ x m. absurd (none_in x m) }

-- bits collected: none is set where none was and the two numbers are the same
collected : (w e v : ℕ) → eqb (bit_or w (bit_xor e v)) 0 ≡ (eqb w 0 && eqb e v)
collected w e v = same_test (eqb (bit_or w (bit_xor e v)) 0) (eqb w 0 && eqb e v)
    (λ t.
    let z = eqb→eq (bit_or w (bit_xor e v)) 0 t in
    let o = or_add_and w (bit_xor e v) in
    let l = and_le_l w (bit_xor e v) in
    let r = and_le_r w (bit_xor e v) in
    let x = xor_add_and e v in
    let i = and_le_l e v in
    let j = and_le_r e v in
    and_i (eqb w 0) (eqb e v) (eq_T w 0 (omega arith)) (eq_T e v (omega arith)))
    (λ t.
    let a = eqb→eq w 0 (and_l (eqb w 0) (eqb e v) t) in
    let b = eqb→eq e v (and_r (eqb w 0) (eqb e v) t) in
    eq_T (bit_or w (bit_xor e v)) 0 (ap₂ (λ (k l : ℕ). bit_or k (bit_xor l v)) a b ∙ xor_self v))

-- the members of a list with one more at its end
has_last : (k : List ℕ) (x : ℕ) → has x (k ++ x ∷ []) ≡ true
has_last k x = T_true _ (has_later x k _ (has_head x []))

has_others : (k : List ℕ) (x y : ℕ) → (y ≡ x → ⊥) → has y (k ++ x ∷ []) ≡ has y k
has_others k x y d = same_test _ _
    (λ t. ⊎_elim (λ m. m) (λ m. absurd (d (of_single _ _ m))) (of_append y k (x ∷ []) t))
    (has_append _ _ _)

reordered : (g s a r : Bool) → ((g && s) && (a && r)) ≡ (g && (a && (s && r)))
reordered false s a r = refl
reordered true s true r = refl
reordered true s false r = and-false s

module _ {neighbours : List ℕ} {last n v : ℕ} {row cursors cursors' : List ℕ} {before wrong i : ℕ}
    (p : Passed neighbours last n v row cursors cursors' before wrong i) where
  pub passed_all : length row ≤ i → Judged neighbours last n v row cursors (eqb wrong 0) cursors'
  unfolding ascending all
  passed_all h = (
    sym (and-true _) ∙ rw (drop_of_length-le row h) at p.rest,
    λ e. rw (take_all i row h) at p.moved,
  )

  -- the next node, x
  module _ (h : i < length row) where
    abbrev x : ℕ
    x = get_or row i 0

    -- where x is above the nodes passed, its cursor has not moved yet
    unmoved : before < x → get_or cursors' x 0 ≡ get_or cursors x 0
    unmoved l = p.moved x ∙ rw (no_false (has x (take i row)) (λ m. let k = p.most x m in omega arith))

    -- where the row fits, x passes the tests
    next_fits : T (row_fits neighbours last n v row cursors) → (before < x) × (x < n) × (get_or cursors' x 0 < last)
    next_fits t =
        let order = ascending (before ∷ drop i row) in
        let nodes = all (fits neighbours last n v cursors) (drop i row) in
        let both = and_r (eqb wrong 0) (order && nodes) (subst T (sym p.rest) t) in
        let here : T (has x (drop i row)) = rw (drop_next row i h) (has_head _ _) in
        let above = ascending_above _ (drop i row) (and_l order nodes both) x here in
        let fit = fits_facts neighbours last n v cursors x (of_all _ (drop i row) (and_r order nodes both) x here) in
        (above, fit.below, rw (unmoved above) fit.before_last)

    -- where x does not, the answer is no
    pub next_fails : ((before < x) × (x < n) × (get_or cursors' x 0 < last) → ⊥)
        → Judged neighbours last n v row cursors false cursors'
    next_fails f =
        (sym (no_false (row_fits neighbours last n v row cursors) (λ t. f (next_fits t))), λ e. absurd (true_T false e))

    -- where x passes them, its cursor moves on, and the bits in which the entry there differs from v are collected
    module _ (room : n ≤ length cursors) (above : before < x) (below : x < n) (before_last : get_or cursors' x 0 < last) where
      abbrev at : ℕ
      at = get_or cursors' x 0

      -- the nodes passed, and x
      front : take (i + 1) row ≡ take i row ++ x ∷ []
      front = rw add-one (take-suc row i 0 h)

      -- y's cursor, once x's has moved
      abbrev Next : ℕ → Type 0
      Next y = get_or (set cursors' x (at + 1)) y 0 ≡ (if has y (take i row ++ x ∷ []) then get_or cursors y 0 + 1 else get_or cursors y 0)

      this : Next x
      this = rw has_last (get_or-set_same cursors' x (at + 1) 0 (omega arith) ∙ rw (unmoved above))

      other : {y : ℕ} → (y ≡ x → ⊥) → Next y
      other {y} d = rw (has_others (take i row) x y d, get_or-set_other cursors' x y (at + 1) 0 d) (p.moved y)

      moved_next : Moved (take (i + 1) row) cursors (set cursors' x (at + 1))
      moved_next y = rw front (⊎_elim (λ e. subst Next (sym e) this) other (eq_or _ _))

      rest_next : (eqb (bit_or wrong (bit_xor (get_or neighbours at 0) v)) 0
          && (ascending (x ∷ drop (i + 1) row) && all (fits neighbours last n v cursors) (drop (i + 1) row)))
          ≡ row_fits neighbours last n v row cursors
      unfolding stands ascending all
      rest_next =
          let others = all (fits neighbours last n v cursors) (drop (i + 1) row) in
          let k : get_or cursors x 0 < last = omega (arith, unmoved above) in
          let tests = rw (drop_next row i h, lt-ltb before x above, lt-ltb x n below, lt-ltb (get_or cursors x 0) last k) at p.rest in
          rw (collected wrong (get_or neighbours at 0) v, unmoved above)
          (reordered (eqb wrong 0) (stands neighbours v x cursors) (ascending (x ∷ drop (i + 1) row)) others ∙ tests)

      pub passed_next : Passed neighbours last n v row cursors (set cursors' x (at + 1)) x
          (bit_or wrong (bit_xor (get_or neighbours at 0) v)) (i + 1)
      passed_next = record {
        within = omega arith;
        size = length-set cursors' x (at + 1) ∙ p.size;
        rest = rest_next;
        moved = moved_next;
        most = λ y m. ⊎_elim (λ k. let e = p.most y k in omega arith) (λ k. let e = of_single y x k in omega arith)
            (of_append y (take i row) (x ∷ []) (rw front at m));
      }
