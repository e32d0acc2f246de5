-- The rows are matched one after the other, with a cursor for each node, which passes over the node's smaller neighbours. In a survey each
-- row fits; where all rows fit, the lists are a survey's.
-- Assumes nothing.
use mathlib.Core.Path.{◌≡◌, sym, ap, ◌∙◌}
use mathlib.Core.Logic.{◌⊎◌, ⊎_elim}
use mathlib.Core.List.{List, [], ◌∷◌, ◌++◌}
use Prim.Native.Nat.{ℕ, suc, ◌+◌, ◌-◌, ◌/◌, ◌%◌, ◌≤◌, ◌<◌}
use native.Mathlib.Omega.{arith}
use lib.Dec.{T, ltb}
use lib.ListN.{length, get_or, take, drop, length-take, length-drop}
use lib.Seq.{get_or-take, get_or-drop, take-suc, take-add, drop-drop}
use Rattle.model.specs.Basics.{has, keep}
use Rattle.model.specs.Survey.{Graph, neighbours_of, ascending, IsSurvey}
use Rattle.model.proofs.Tests.{T_true, no_false, passes, lt_or}
use Rattle.model.proofs.Lists.{has_append, has_later, of_append, keep_length}
use Rattle.model.proofs.Ascending.{ascending_above, ascending_cons, ascending_tail, standing}
use Rattle.model.proofs.SurveyLists.{start_last}
use Rattle.survey_neighbours.specs.Rows.{Rows}
use Rattle.survey_neighbours.proofs.RowLaws.{own_length}
use Rattle.survey_acceptance.specs.Matching.{Moved}
use Rattle.survey_acceptance.proofs.Matching.{ascending_join, ascending_later, ascending_between}
use Rattle.survey_acceptance.proofs.Matching.{Met, met_none, met_more, met_same, met_are, RowsRight, right_none, right_next}
use Rattle.survey_acceptance.proofs.Fitting.{RowFits}

module _ (starts neighbours cursors : List ℕ) (x : ℕ) where
  -- the entries of row x before its cursor, and those from it on
  unfoldable before_cursor : List ℕ
  before_cursor = take (get_or cursors x 0 - get_or starts x 0) (drop (get_or starts x 0) neighbours)

  abbrev from_cursor : List ℕ
  from_cursor = take (get_or starts (x + 1) 0 - get_or cursors x 0) (drop (get_or cursors x 0) neighbours)

-- the rows below v are matched: they are right, and before the cursor of each node from v on stand the nodes below v that have it in
-- their rows
pub record Upto (n : ℕ) (starts neighbours : List ℕ) (v : ℕ) (cs : List ℕ) : Type 0 where
  placed : (x : ℕ) → x < n → (get_or starts x 0 ≤ get_or cs x 0) × (get_or cs x 0 ≤ get_or starts n 0)
  met : (x : ℕ) → v ≤ x → x < n → Met (neighbours_of starts neighbours) v x (before_cursor starts neighbours cs x)
  right : RowsRight n (neighbours_of starts neighbours) v

module _ {n : ℕ} {starts neighbours : List ℕ} (ok : Rows n starts neighbours) where
  abbrev G : Graph
  G = neighbours_of starts neighbours

  -- the start of a row
  abbrev S : ℕ → ℕ
  S x = get_or starts x 0

  abbrev before : List ℕ → ℕ → List ℕ
  before cs x = before_cursor starts neighbours cs x

  before_none : (cs : List ℕ) (x : ℕ) → get_or cs x 0 ≡ S x → before cs x ≡ []
  unfolding before_cursor
  before_none cs x e = let z : get_or cs x 0 - S x ≡ 0 = omega arith in rw z

  before_length : (cs : List ℕ) (x : ℕ) → get_or cs x 0 ≤ S n → length (before cs x) ≡ get_or cs x 0 - S x
  unfolding before_cursor
  before_length cs x h =
      length-take (get_or cs x 0 - S x) (drop (S x) neighbours) ∙ omega (arith, length-drop (S x) neighbours, ok.within)

  -- a row is what is before its cursor and what is left
  split : (cs : List ℕ) (x : ℕ) → S x ≤ get_or cs x 0 → get_or cs x 0 ≤ S (x + 1)
      → G x ≡ before cs x ++ from_cursor starts neighbours cs x
  unfolding before_cursor neighbours_of
  split cs x h l =
      let a = get_or cs x 0 - S x in
      let b = S (x + 1) - get_or cs x 0 in
      let e : S (x + 1) - S x ≡ a + b = omega arith in
      let f : S x + a ≡ get_or cs x 0 = omega arith in
      rw (e, take-add a b (drop (S x) neighbours), drop-drop, f)

  own_at : (x i : ℕ) → S x + i < S (x + 1) → get_or neighbours (S x + i) 0 ≡ get_or (G x) i 0
  unfolding neighbours_of
  own_at x i h = sym (get_or-take (S (x + 1) - S x) (drop (S x) neighbours) i 0 (omega arith) ∙ get_or-drop (S x) neighbours i 0)

  -- ---- no row is matched, and all are

  pub upto_none : {cs : List ℕ} → ((x : ℕ) → x < n → get_or cs x 0 ≡ S x) → Upto n starts neighbours 0 cs
  upto_none {cs} e = record {
    placed = λ x h. let i = e x h in (omega arith, omega (arith, start_last n starts ok.rising x (omega arith)));
    met = λ x l h. rw (before_none cs x (e x h)) met_none;
    right = right_none;
  }

  pub upto_all : {v : ℕ} {cs : List ℕ} → Upto n starts neighbours v cs → n ≤ v → S n % 2 ≡ 0 → S n / 2 ≤ 16384
      → IsSurvey n starts neighbours
  upto_all u l even few = record {
    first = ok.first;
    rising = ok.rising;
    even = even;
    few_links = few;
    within = ok.within;
    sorted = λ w h. u.right.sorted w (omega arith);
    loopless = λ w x h m. (u.right.below w (omega arith) x m).1;
    graph = record {
      below = λ w x h m. (u.right.below w (omega arith) x m).0;
      symmetric = λ w x h m. let i = u.right.below w (omega arith) x m in u.right.back w (omega arith) x (omega arith) m;
    };
  }

  -- ---- row v

  module _ {v : ℕ} {cs : List ℕ} (u : Upto n starts neighbours v cs) (hv : v < n) where
    -- in a survey x's cursor has passed x's neighbours below v
    cursor_at : IsSurvey n starts neighbours → (x : ℕ) → v ≤ x → x < n → get_or cs x 0 ≡ S x + length (keep (λ w. ltb w v) (G x))
    cursor_at s x l h =
        let p = u.placed x h in
        let e = met_are (u.met x l h) s.graph (omega arith) h (s.sorted x h) in
        omega (arith, sym (before_length cs x p.1) ∙ ap length e)

    pub at_cursor : IsSurvey n starts neighbours → get_or cs v 0 ≤ S (v + 1)
    at_cursor s =
        let k = keep_length (λ w. ltb w v) (G v) in
        omega (arith, cursor_at s v (omega arith) hv, own_length n starts neighbours ok v hv, ok.rising v hv)

    module _ (inside : get_or cs v 0 ≤ S (v + 1)) where
      abbrev row : List ℕ
      row = from_cursor starts neighbours cs v

      -- v's own cursor has passed its smaller neighbours
      own : Met G v v (before cs v)
      own = u.met v (omega arith) hv

      whole : G v ≡ before cs v ++ row
      whole = split cs v (u.placed v hv).0 inside

      of_before : (x : ℕ) → T (has x (before cs v)) → T (has x (G v))
      of_before x m = rw whole (has_append x (before cs v) row m)

      of_row : (x : ℕ) → T (has x row) → T (has x (G v))
      of_row x m = rw whole (has_later x (before cs v) row m)

      parts : (x : ℕ) → T (has x (G v)) → T (has x (before cs v)) ⊎ T (has x row)
      parts x m = of_append x (before cs v) row (rw whole at m)

      -- in a survey the row fits
      pub survey_fits : IsSurvey n starts neighbours → RowFits neighbours (S n) n v cs row
      survey_fits s = record {
        order = ascending_cons v row larger (ascending_later (before cs v) row sorted);
        nodes = λ x m. record { below = below x m; before_last = (stands x m).0; found = (stands x m).1 };
      }
        where
          sorted : T (ascending (before cs v ++ row))
          sorted = rw whole at (s.sorted v hv)

          below : (x : ℕ) → T (has x row) → x < n
          below x m = s.graph.below v x hv (of_row x m)

          back : (x : ℕ) → T (has x row) → T (has v (G x))
          back x m = s.graph.symmetric v x hv (of_row x m)

          larger : (x : ℕ) → T (has x row) → v < x
          larger x m = ⊎_elim
              (λ l. let k = ascending_between (before cs v) row sorted x x (own.into x l (back x m)) m in absurd (omega arith))
              (λ l. let d = s.loopless v x hv (of_row x m) in omega arith)
              (lt_or x v)

          stands : (x : ℕ) → T (has x row) → (get_or cs x 0 < S n) × (get_or neighbours (get_or cs x 0) 0 ≡ v)
          stands x m =
              let h = below x m in
              let l = larger x m in
              let k = length (keep (λ w. ltb w v) (G x)) in
              let a = standing (G x) v (s.sorted x h) (back x m) in
              let c : get_or cs x 0 ≡ S x + k = cursor_at s x (omega arith) h in
              let in_row : S x + k < S (x + 1) = omega (arith, a.0, own_length n starts neighbours ok x h) in
              (omega (arith, start_last n starts ok.rising (x + 1) (omega arith)), rw c (own_at x k in_row ∙ a.1))

      -- a row that fits is matched: the cursors of its nodes have moved on
      module _ (fit : RowFits neighbours (S n) n v cs row) (cs' : List ℕ) (moved : Moved row cs cs') where
        larger : (x : ℕ) → T (has x row) → v < x
        larger = ascending_above v row fit.order

        on : (x : ℕ) → T (has x row) → get_or cs' x 0 ≡ get_or cs x 0 + 1
        on x m = moved x ∙ rw (T_true (has x row) m)

        still : (x : ℕ) → (T (has x row) → ⊥) → get_or cs' x 0 ≡ get_or cs x 0
        still x d = moved x ∙ rw (no_false (has x row) d)

        before_on : (x : ℕ) → T (has x row) → before cs' x ≡ before cs x ++ v ∷ []
        unfolding before_cursor
        before_on x m =
            let f = fit.nodes x m in
            let p = u.placed x f.below in
            let a = get_or cs x 0 - S x in
            let e : get_or cs x 0 + 1 - S x ≡ suc a = omega arith in
            let g : S x + a ≡ get_or cs x 0 = omega arith in
            rw (on x m, e) (
            take-suc (drop (S x) neighbours) a 0 (omega (arith, length-drop (S x) neighbours, ok.within))
            ∙ rw (get_or-drop (S x) neighbours a 0, g, f.found)
            )

        before_still : (x : ℕ) → (T (has x row) → ⊥) → before cs' x ≡ before cs x
        unfolding before_cursor
        before_still x d = rw (still x d)

        -- the nodes of row v: those before its cursor are smaller, those from it on are larger
        row_sorted : T (ascending (G v))
        row_sorted =
            rw whole (ascending_join (before cs v) row own.order (ascending_tail v row fit.order)
            (λ x y k m. let i = own.from x k in let j = larger y m in omega arith))

        row_below : (x : ℕ) → T (has x (G v)) → (x < n) × (x ≡ v → ⊥)
        row_below x m = ⊎_elim
            (λ k. let i = own.from x k in (omega arith, λ e. omega arith))
            (λ r. let i = larger x r in ((fit.nodes x r).below, λ e. omega arith))
            (parts x m)

        row_back : (x : ℕ) → x < v + 1 → T (has x (G v)) → T (has v (G x))
        row_back x l m = ⊎_elim (λ k. (own.from x k).1) (λ r. let i = larger x r in absurd (omega arith)) (parts x m)

        row_larger : (x : ℕ) → v < x → T (has x (G v)) → T (has x row)
        row_larger x l m = ⊎_elim (λ k. let i = own.from x k in absurd (omega arith)) (λ r. r) (parts x m)

        pub upto_next : Upto n starts neighbours (v + 1) cs'
        upto_next = record {
          placed = λ x h.
              let p = u.placed x h in
              ⊎_elim
              (λ m. let f = (fit.nodes x m).before_last in rw (on x m) (omega arith, omega arith))
              (λ d. rw (still x d) p)
              (passes (has x row));
          met = λ x l h.
              let m = u.met x (omega arith) h in
              ⊎_elim
              (λ r. rw (before_on x r) (met_more m (of_row x r)))
              (λ d. rw (before_still x d) (met_same m (λ k. d (row_larger x (omega arith) k))))
              (passes (has x row));
          right = right_next u.right row_sorted row_below row_back (λ w h m. of_before w (own.into w h m));
        }
