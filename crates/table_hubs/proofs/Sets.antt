-- The sets that choosing hubs works on: closed neighbourhoods, and what they hold of the uncovered nodes.
-- Assumes nothing.
use mathlib.Core.Path.{◌≡◌, refl, sym, ap, ap₂, ◌∙◌, subst, fun_ext}
use mathlib.Core.Logic.{⊎_elim}
use mathlib.Core.Bool.{Bool, true, false, not, ◌&&◌, ◌||◌, and_comm, or_comm, or-false}
use mathlib.Core.List.{List, [], ◌∷◌}
use Prim.Native.Nat.{ℕ, ◌+◌, ◌*◌, ◌≤◌, ◌<◌}
use native.Mathlib.Omega.{arith}
use borrow.Author.Tests.{lt-ltb, ltb-true, ltb-false}
use Rattle.std.specs.Prelude.{Option, Some, is_some, cond, if◌then◌else◌}
use Rattle.std.specs.List.{find}
use Rattle.std.proofs.lemmas.List.{nil_from_length}
use lib.Dec.{T, eqb, ltb}
use lib.ListN.{length, get_or, drop, replicate, drop_of_length-le}
use Rattle.model.specs.Basics.{up_to, has, keep, first_of}
use Rattle.model.specs.Survey.{Graph, IsGraph, Accepted, neighbours_of}
use Rattle.model.specs.Hubs.{is_high, closed, gain}
use Rattle.model.proofs.Tests.{and_r, or_turned}
use Rattle.model.proofs.Lists.{of_cons, has_keep, has_up_to, of_up_to, keep_same, keep_keep, keep_none, keep_below, keep_length, length_up_to}
use Rattle.model.proofs.Lists.{First, found, nothing, first_below}
use Rattle.model.proofs.Ascending.{get_d_has}
use Rattle.model.proofs.Loops.{drop_next}
use Rattle.base_nodeset.specs.NodeSet.{Nodes, member, empty_set, inserted, intersection, difference}
use Rattle.base_nodeset.proofs.Bits.{empty_words}

-- ---- a list of nodes, one more at a time

-- what is in the set and what is still to be put into it
pub record Inserted (list w₀ ws : List ℕ) (i : ℕ) : Type 0 where
  pub same : length ws ≡ length w₀
  pub says : (x : ℕ) → (has x (drop i list) || member ws x) ≡ (has x list || member w₀ x)

module _ {list w₀ ws : List ℕ} {i : ℕ} (h : Inserted list w₀ ws i) where
  pub inserted_more : {ws' : List ℕ} → i < length list → length ws' ≡ length ws → member ws' ≡ inserted (member ws) (get_or list i 0)
      → Inserted list w₀ ws' (i + 1)
  unfolding has inserted
  inserted_more l k e = record {
    same = k ∙ h.same;
    says = λ x.
        ap (λ (p : Nodes). has x (drop (i + 1) list) || p x) e
        ∙ or_turned (has x (drop (i + 1) list)) (eqb x (get_or list i 0)) _
        ∙ ap (λ (r : List ℕ). has x r || member ws x) (sym (drop_next list i l)) ∙ h.says x;
  }

  pub inserted_all : length list ≤ i → member ws ≡ (λ x. has x list || member w₀ x)
  unfolding has
  inserted_all l = fun_ext (λ x. ap (λ (r : List ℕ). has x r || member ws x) (sym (drop_of_length-le list l)) ∙ h.says x)

-- ---- the closed neighbourhood of a node

-- the node is put into the empty set, which gives p, and then its neighbours, which gives q
pub closed_lem : (G : Graph) {v : ℕ} {row : List ℕ} {p q : Nodes} → p ≡ inserted (member (replicate 16 0)) v
    → row ≡ G v → q ≡ (λ x. has x row || p x) → q ≡ (λ x. has x (closed G v))
unfolding closed has inserted empty_set
closed_lem G {v} {p = p} node own all =
    let alone : p ≡ inserted empty_set v = node ∙ ap (λ (m : Nodes). inserted m v) (empty_words 16) in
    all ∙ fun_ext (λ x.
    ap₂ (λ (l : List ℕ) (m : Nodes). has x l || m x) own alone
    ∙ ap (λ (b : Bool). has x (G v) || b) (or-false _)
    ∙ or_comm (has x (G v)) (eqb x v))

-- each neighbour has a bit among 16 words
pub neighbour_inside : {n : ℕ} {starts neighbours : List ℕ} → Accepted n starts neighbours → {v i : ℕ} → v < n
    → {row : List ℕ} → row ≡ neighbours_of starts neighbours v → i < length row → get_or row i 0 < 1024
neighbour_inside {starts = starts} {neighbours} a {v} {i} h {row} own l =
    let below : get_or row i 0 < _ = a.lists.graph.below v _ h (subst (λ (r : List ℕ). T (has (get_or row i 0) r)) own (get_d_has row i l)) in
    omega (arith, below, a.size)

closed_below : {n : ℕ} {G : Graph} → IsGraph n G → (v : ℕ) → v < n → (x : ℕ) → T (has x (closed G v)) → x < n
unfolding closed
closed_below {G = G} g v h x t = ⊎_elim (λ e. omega arith) (λ r. g.below v x h r) (of_cons x v (G v) t)

-- ---- the uncovered nodes

-- the nodes below n in the set
abbrev pub uncovered : ℕ → List ℕ → List ℕ
uncovered n us = keep (member us) (up_to n)

-- the newly covered nodes are as many as the node gains
pub gain_words : {n : ℕ} {starts neighbours : List ℕ} → Accepted n starts neighbours → (v : ℕ) → v < n → (ns us : List ℕ) → length ns ≡ 16
    → member ns ≡ intersection (λ x. has x (closed (neighbours_of starts neighbours) v)) (member us)
    → length (keep (member ns) (up_to (64 * length ns))) ≡ gain (neighbours_of starts neighbours) (uncovered n us) v
unfolding gain intersection
gain_words {n} {starts} {neighbours} a v h ns us l e =
    let near : Nodes = λ x. has x (closed (neighbours_of starts neighbours) v) in
    let both : Nodes = λ x. member us x && near x in
    let swapped : member ns ≡ both = e ∙ fun_ext (λ x. and_comm (near x) (member us x)) in
    let k : 64 * length ns ≡ 1024 = omega arith in
    ap₂ (λ (p : Nodes) (m : ℕ). length (keep p (up_to m))) swapped k
    ∙ ap length (
    keep_below _ _ _ a.size (λ x t. closed_below a.lists.graph _ h _ (and_r (member us x) (near _) t))
    ∙ sym (keep_keep _ _ _))

pub gain_few : (n : ℕ) (G : Graph) (us : List ℕ) (v : ℕ) → gain G (uncovered n us) v ≤ n
unfolding gain
gain_few n G us v =
    omega (arith, keep_length (λ u. has u (closed G v)) (uncovered n us), keep_length (member us) (up_to n), length_up_to n)

-- without the newly covered nodes the uncovered ones are without the closed neighbourhood
pub covered_newly : (near us : Nodes) {newly left : Nodes} → newly ≡ intersection near us → left ≡ difference us newly → left ≡ difference us near
unfolding intersection difference
covered_newly near us e l = l ∙ rw e (fun_ext (λ x. at (us x) (near x)))
  where
    at : (a b : Bool) → (a && not (b && a)) ≡ (a && not b)
    at true true = refl
    at true false = refl
    at false b = refl

-- where the smallest member is below n, some node is uncovered; where it is not, none is
module _ (n : ℕ) (us : List ℕ) (long : length us ≡ 16) (size : n ≤ 1024)
    {r : ℕ} (e : r ≡ first_of (member us) (64 * length us) (up_to (64 * length us))) where
  smallest : First (member us) (64 * length us) 0 (64 * length us) r
  smallest = rw e (first_below (member us) (64 * length us) (64 * length us))

  pub some_left : r < n → T (has r (uncovered n us))
  some_left h = at smallest
    where
      at : First (member us) (64 * length us) 0 (64 * length us) r → T (has r (uncovered n us))
      at (found lo hi t least) = has_keep (member us) (up_to n) r (has_up_to n r h) t
      at (nothing q miss) = absurd (omega arith)

  pub none_left : n ≤ r → uncovered n us ≡ []
  none_left h = keep_none _ _ (λ x m t. at smallest x (of_up_to _ _ m) t)
    where
      at : First (member us) (64 * length us) 0 (64 * length us) r → (x : ℕ) → x < n → T (member us x) → ⊥
      at (found lo hi t least) x l s = least x (omega arith) (omega arith) s
      at (nothing q miss) x l s = miss x (omega arith) (omega arith) s

-- a test finds an element where it keeps one
kept_some : (p : ℕ → Bool) (l : List ℕ) → is_some (find p l) ≡ ltb 0 (length (keep p l))
unfolding keep
kept_some p [] = refl
kept_some p (x ∷ l) = at (p x) (kept_some p l)
  where
    at : (b : Bool) → is_some (find p l) ≡ ltb 0 (length (keep p l))
        → is_some (cond b (Some x) (find p l)) ≡ ltb 0 (length (if b then x ∷ keep p l else keep p l))
    at true e = sym (lt-ltb 0 (length (x ∷ keep p l)) (omega arith))
    at false e = e

-- where all members are below n, some node is uncovered exactly if there is a smallest member
module _ (n : ℕ) (us : List ℕ) (long : length us ≡ 16) (size : n ≤ 1024) (below : (x : ℕ) → T (member us x) → x < n)
    {r : Option ℕ} (e : r ≡ find (member us) (up_to (64 * length us))) where
  some_test : is_some r ≡ ltb 0 (length (uncovered n us))
  some_test =
      let k : 64 * length us ≡ 1024 = omega arith in
      ap is_some e ∙ kept_some (member us) _
      ∙ ap (λ (m : ℕ). ltb 0 (length (keep (member us) (up_to m)))) k
      ∙ ap (λ (l : List ℕ). ltb 0 (length l)) (keep_below (member us) n 1024 size below)

  pub some_by_find : {b : Bool} → b ≡ is_some r → b ≡ true → 0 < length (uncovered n us)
  some_by_find q t = ltb-true _ _ (sym some_test ∙ sym q ∙ t)

  pub none_by_find : {b : Bool} → b ≡ is_some r → b ≡ false → uncovered n us ≡ []
  none_by_find q f = nil_from_length _ (omega (arith, ltb-false _ _ (sym some_test ∙ sym q ∙ f)))

-- at first the high nodes are uncovered
pub high_kept : (n s : ℕ) (G : Graph) {p : Nodes} → p ≡ (λ x. ltb x n && is_high s G x)
    → keep p (up_to n) ≡ keep (is_high s G) (up_to n)
high_kept n s G e =
    ap (λ (p : Nodes). keep p (up_to n)) e
    ∙ keep_same _ _ _ (λ x m t. and_r (ltb x n) (is_high s G x) t)
    (λ x m t. subst (λ (b : Bool). T (b && is_high s G x)) (sym (lt-ltb x n (of_up_to _ _ m))) t)

-- what is left of the uncovered nodes p without the set c
pub covered_kept : (n : ℕ) (p c : Nodes) {q : Nodes} → q ≡ difference p c → keep q (up_to n) ≡ keep (λ x. not (c x)) (keep p (up_to n))
unfolding difference
covered_kept n p c e = ap (λ (f : Nodes). keep f (up_to n)) e ∙ sym (keep_keep _ _ _)
