-- A search through allowed nodes: the others get another entry than none before it, and none after it.
-- Assumes nothing.
use mathlib.Core.Path.{◌≡◌, refl, sym, ap, ◌∙◌}
use mathlib.Core.Bool.{Bool, true, false, not}
use mathlib.Core.List.{List, [], ◌∷◌, map}
use Prim.Native.Nat.{ℕ, suc, ◌-◌, ◌≤◌, ◌<◌}
use native.Mathlib.Omega.{arith}
use borrow.Author.Tests.{lt-ltb}
use lib.Dec.{T, eqb, ltb, ltb→lt}
use lib.ListN.{length, get_or, replicate, get_or-replicate}
use Rattle.model.specs.Basics.{none, up_to, keep}
use Rattle.std.specs.Prelude.{if◌then◌else◌}
use Rattle.model.specs.Graph.{Edges, between, fewest, linked}
use Rattle.model.specs.Survey.{Graph}
use Rattle.model.proofs.Tests.{and_l, false_no}
use Rattle.model.proofs.Lists.{keep_same, keep_split, keep_below, keep_length, of_up_to, length_up_to}
use Rattle.model.proofs.Entries.{get_d_row}
use Rattle.model.proofs.TableLaws.{between_same, between_missed}
use Rattle.base_lists.proofs.TableRows.{is_row, row_same}
use Rattle.base_nodeset.specs.NodeSet.{Nodes, difference}
use Rattle.search_queue.specs.Visiting.{unreached}
use Rattle.search_queue.proofs.Visiting.{unreached_all}
use Rattle.search_one_source.specs.OpenNodes.{is_open, searched}

-- ---- how many nodes are open

keep_map : (p : ℕ → Bool) (f : ℕ → ℕ) (l : List ℕ) → length (keep p (map f l)) ≡ length (keep (λ x. p (f x)) l)
unfolding keep
keep_map p f [] = refl
keep_map p f (x ∷ l) = at (p (f x)) _ _ (keep_map p f l)
  where
    at : (b : Bool) (k j : List ℕ) → length k ≡ length j → length (if b then f x ∷ k else k) ≡ length (if b then x ∷ j else j)
    at true k j e = ap suc e
    at false k j e = e

unreached_open : {n : ℕ} (row : List ℕ) → length row ≡ n → unreached row ≡ length (keep (is_open row) (up_to n))
unfolding unreached
unreached_open {n} row long =
    ap (λ (l : List ℕ). length (keep (λ x. eqb x none) l)) (is_row n (λ v. get_or row v 0) row long (λ i h. refl)) ∙ keep_map _ _ (up_to n)

-- ---- the row before and after the search

module _ {n : ℕ} (allowed : Nodes) {closed : Nodes} (c : closed ≡ difference (λ v. ltb v n) allowed) where
  closed_is : (v : ℕ) → v < n → closed v ≡ not (allowed v)
  unfolding difference
  closed_is v h = ap (λ (f : Nodes). f v) c ∙ rw (lt-ltb v n h)

  pub closed_below : (v : ℕ) → T (closed v) → v < n
  unfolding difference
  closed_below v t = ltb→lt v n (and_l (ltb v n) (not (allowed v)) (rw c at t))

  closed_all : n ≤ 1024 → {k : ℕ} → k ≡ 1024 → keep closed (up_to k) ≡ keep closed (up_to n)
  closed_all size {k} e = keep_below closed n k (omega arith) closed_below

  pub closed_few : n ≤ 1024 → {k r : ℕ} → k ≡ 1024 → r ≡ length (keep closed (up_to k)) → r ≤ n
  closed_few size e q = omega (arith, ap length (closed_all size e), keep_length closed (up_to n), length_up_to n)

  -- the nodes that are not allowed got 0
  module _ {row₀ : List ℕ} (row : List ℕ) (None-first : row₀ ≡ replicate n none) (long : length row ≡ n)
      (says : (x : ℕ) → get_or row x 0 ≡ (if closed x then 0 else get_or row₀ x 0)) where
    pub open_is : (v : ℕ) → v < n → is_open row v ≡ allowed v
    open_is v h =
        let entry : get_or row v 0 ≡ (if not (allowed v) then 0 else none) =
        says v ∙ rw (closed_is v h, None-first, get_or-replicate n v none 0 h) in
        rw entry (at (allowed v))
      where
        at : (b : Bool) → eqb (if not b then 0 else none) none ≡ b
        at true = refl
        at false = refl

    pub open_count : n ≤ 1024 → {k r : ℕ} → k ≡ 1024 → r ≡ length (keep closed (up_to k)) → n - r ≡ unreached row
    open_count size {k} e q =
        let others : length (keep (is_open row) (up_to n)) ≡ length (keep (λ x. not (closed x)) (up_to n)) =
        ap length (keep_same _ _ (up_to n)
        (λ x m t. rw (closed_is x (of_up_to n x m)) (twice (allowed x) (rw (open_is x (of_up_to n x m)) at t)))
        (λ x m t. rw (open_is x (of_up_to n x m)) (once (allowed x) (rw (closed_is x (of_up_to n x m)) at t)))) in
        omega (arith, ap length (closed_all size e), keep_split closed (up_to n), length_up_to n, unreached_open row long, others)
      where
        twice : (b : Bool) → T b → T (not (not b))
        twice true t = tt
        twice false t = elim t [ ]

        once : (b : Bool) → T (not (not b)) → T b
        once true t = tt
        once false t = elim t [ ]

    -- after the search they get none
    pub search_allowed : (G : Graph) {s : ℕ} → s < n → T (allowed s) → {found : List ℕ} (last : List ℕ) → found ≡ searched n (linked n G) s row
        → length last ≡ n → ((x : ℕ) → get_or last x 0 ≡ (if closed x then none else get_or found x 0))
        → last ≡ map (fewest (between allowed (linked n G)) n s) (up_to n)
    unfolding searched
    search_allowed G {s} hs ts {found} last f l after = is_row n _ last l (λ v h. at v h (allowed v) refl)
      where
        E : Edges
        E = between allowed (linked n G)

        at : (v : ℕ) → v < n → (b : Bool) → allowed v ≡ b → get_or last v 0 ≡ fewest E n s v
        at v h true e =
            let out : get_or last v 0 ≡ get_or found v 0 = after v ∙ rw (closed_is v h, e) in
            out ∙ rw (f, get_d_row _ n v 0 h, open_is v h, e) (ap (λ (F : Edges). fewest F n s v) (between_same (is_open row) allowed n G open_is))
        at v h false e =
            let out : get_or last v 0 ≡ none = after v ∙ rw (closed_is v h, e) in
            out ∙ sym (between_missed allowed n G s v hs ts (false_no (allowed v) e))

-- ---- where every entry is none all nodes are open

module _ (n : ℕ) {row : List ℕ} (e : row ≡ replicate n none) where
  pub all_open : (v : ℕ) → v < n → is_open row v ≡ true
  all_open v h = rw (e, get_or-replicate n v none 0 h)

  pub all_counted : n ≡ unreached row
  all_counted = rw e (sym (unreached_all n))

  pub search_all : (G : Graph) (s : ℕ) → searched n (linked n G) s row ≡ map (fewest (linked n G) n s) (up_to n)
  unfolding searched
  search_all G s =
      let same : between (is_open row) (linked n G) ≡ linked n G =
      between_same (is_open row) (λ v. true) n G all_open in
      row_same n _ _ (λ v h. rw (all_open v h, same))
