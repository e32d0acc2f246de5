-- Links put into a matrix of words one by one.
-- Assumes nothing.
use mathlib.Core.Path.{◌≡◌, refl, ap, ◌∙◌, fun_ext}
use mathlib.Core.Logic.{⊎_elim}
use mathlib.Core.Bool.{Bool, false, ◌&&◌, ◌||◌, and-false}
use mathlib.Core.List.{List}
use Prim.Native.Nat.{ℕ, ◌+◌, ◌*◌, ◌<◌}
use native.Mathlib.Omega.{arith}
use borrow.Author.Tests.{lt-ltb, le-ltb, ne_eqb, eqb-true}
use lib.Dec.{eqb, ltb}
use lib.ListN.{replicate}
use Rattle.model.specs.Graph.{Edges}
use Rattle.model.proofs.Tests.{and_l, and_r, and_i, T_true, same_test, eq_T, lt_or}
use Rattle.base_nodeset.specs.NodeSet.{Nodes, member, empty_set, inserted}
use Rattle.base_nodeset.specs.Matrix.{edges_in}
use Rattle.base_nodeset.proofs.Bits.{empty_words}

-- two matrices have the same links
pub same_edges : (E F : Edges) → ((u x : ℕ) → E u x ≡ F u x) → E ≡ F
same_edges E F h = fun_ext (λ u. fun_ext (h u))

-- ---- one link

-- the number of a pair determines the pair
pair_test : (u x v w : ℕ) → x < 1024 → w < 1024 → eqb (1024 * u + x) (1024 * v + w) ≡ (eqb u v && eqb x w)
pair_test u x v w hx hw =
    let s = eqb (1024 * u + x) (1024 * v + w) in
    same_test s (eqb u v && eqb x w)
    (λ t.
    let e = eqb-true (1024 * u + x) (1024 * v + w) (T_true s t) in
    and_i (eqb u v) (eqb x w) (eq_T u v (omega arith)) (eq_T x w (omega arith)))
    (λ t.
    let a = eqb-true u v (T_true (eqb u v) (and_l (eqb u v) (eqb x w) t)) in
    let b = eqb-true x w (T_true (eqb x w) (and_r (eqb u v) (eqb x w) t)) in
    eq_T (1024 * u + x) (1024 * v + w) (omega arith))

-- a link put in is that link or one that was there
link_test : (u x v w : ℕ) → w < 1024 → (b : Bool)
    → (ltb x 1024 && (eqb (1024 * u + x) (1024 * v + w) || b)) ≡ ((eqb u v && eqb x w) || (ltb x 1024 && b))
link_test u x v w h b =
    ⊎_elim
    (λ l. rw (lt-ltb x 1024 l, pair_test u x v w l h) refl)
    (λ l. rw (le-ltb x 1024 l, ne_eqb x w (λ (q : x ≡ w). omega arith), and-false (eqb u v)) refl)
    (lt_or x 1024)

-- the matrix with the link v-w
pub edge_with : (ws ws' : List ℕ) (v w : ℕ) → w < 1024 → member ws' ≡ inserted (member ws) (1024 * v + w)
    → edges_in ws' ≡ (λ u x. (eqb u v && eqb x w) || edges_in ws u x)
unfolding edges_in inserted
edge_with ws ws' v w h e =
    same_edges (edges_in ws') (λ u x. (eqb u v && eqb x w) || edges_in ws u x)
    (λ u x. ap (λ (p : Nodes). ltb x 1024 && p (1024 * u + x)) e ∙ link_test u x v w h (member ws (1024 * u + x)))

pub edges_none : edges_in (replicate 16384 0) ≡ (λ u x. false)
unfolding edges_in empty_set
edges_none =
    same_edges (edges_in (replicate 16384 0)) (λ u x. false)
    (λ u x. ap (λ (m : Nodes). ltb x 1024 && m (1024 * u + x)) (empty_words 16384) ∙ and-false (ltb x 1024))

pub edge_bit : (ws : List ℕ) (a b : ℕ) → b < 1024 → edges_in ws a b ≡ member ws (1024 * a + b)
unfolding edges_in
edge_bit ws a b h = rw (lt-ltb b 1024 h) refl
