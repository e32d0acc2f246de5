-- Rows of Full and Low: what a search through allowed nodes gives for them.
-- Assumes nothing.
use mathlib.Core.Path.{◌≡◌, refl, sym, ap, ap₂, ◌∙◌}
use mathlib.Core.Logic.{◌⊎◌, inl, inr}
use mathlib.Core.Bool.{Bool, true, false, ◌&&◌}
use mathlib.Core.List.{List, [], ◌∷◌, ◌++◌, map}
use Prim.Native.Nat.{ℕ, ◌+◌, ◌*◌, ◌≤◌, ◌<◌}
use native.Mathlib.Numerals.{add-one}
use native.Mathlib.Omega.{arith}
use lib.Dec.{T, ltb}
use lib.ListN.{length, get_or, take, drop, replicate, length-append, length-drop, length-replicate}
use lib.Seq.{take-suc, take_all, drop_at, length-take-le}
use Rattle.base_lists.specs.Written.{written}
use Rattle.model.specs.Basics.{none, up_to, has, over}
use Rattle.std.specs.Prelude.{if◌then◌else◌}
use Rattle.model.specs.Graph.{Edges, between, fewest, linked}
use Rattle.model.specs.Survey.{Graph}
use Rattle.model.specs.Hubs.{is_low}
use Rattle.model.specs.Tables.{full_entry, full_of, low_links, low_table}
use Rattle.model.proofs.Lists.{has_append, has_later, has_head, of_append, of_single}
use Rattle.model.proofs.TableLaws.{between_same, all_allowed, between_missed}
use Rattle.model.proofs.Tests.{T_true, true_T, no_false, passes, same_test}
use Rattle.base_nodeset.specs.NodeSet.{Nodes}
use Rattle.search_many_sources.specs.Levels.{distance, distances}
use Rattle.base_lists.proofs.TableRows.{over_length, row_same, none_row, table_same, put_row, one_value, over_same}
use Rattle.table_degree_split.proofs.Degrees.{low_are}

-- ---- Full, hub by hub

-- the rows of the first i hubs are written, and the other rows are none; behind them stands what stood in the list t
pub record FullTo (n : ℕ) (G : Graph) (hs t full : List ℕ) (i : ℕ) : Type 0 where
  pub within : i ≤ length hs
  pub room : n * n ≤ length t
  pub same : length full ≡ length t
  pub rows : full ≡ over (full_of n G (take i hs)) t

-- at first the front of a list t is filled with none
module _ (n : ℕ) (t : List ℕ) {front : List ℕ} (room : n * n ≤ length t) (filled : front ≡ replicate (length (take (n * n) t)) none) where
  same_front : front ≡ replicate (n * n) none
  same_front = filled ∙ ap (λ (k : ℕ). replicate k none) (length-take-le _ t room)

  front_length : length front ≡ n * n
  front_length = ap length same_front ∙ length-replicate _ _

  same_rest : drop (n * n) (front ++ drop (n * n) t) ≡ drop (n * n) t
  same_rest = drop_at front _ (n * n) front_length

  pub filled_length : length (front ++ drop (n * n) t) ≡ length t
  filled_length = length-append front (drop (n * n) t) ∙ omega (arith, front_length, length-drop (n * n) t)

  pub full_none : {G : Graph} {hs : List ℕ} → FullTo n G hs (front ++ drop (n * n) t) (front ++ drop (n * n) t) 0
  unfolding has
  full_none = record {
    within = omega arith;
    room = omega (arith, filled_length);
    same = refl;
    rows =
        ap (λ (l : List ℕ). l ++ drop (n * n) t) same_front
        ∙ one_value _ _ _
        ∙ over_same n _ t (front ++ drop (n * n) t) (sym same_rest);
  }

  pub full_done : {G : Graph} {hs full : List ℕ} {i : ℕ} → FullTo n G hs (front ++ drop (n * n) t) full i → length hs ≤ i
      → full ≡ over (full_of n G hs) t
  full_done {G} {hs} {i = i} r h =
      let t' = front ++ drop (n * n) t in
      r.rows ∙ ap (λ (l : List ℕ). over (full_of n G l) t') (take_all i hs h) ∙ over_same _ _ _ _ same_rest

-- one hub more
module _ {n : ℕ} {G : Graph} {hs t full : List ℕ} {i : ℕ} (r : FullTo n G hs t full i) (h : i < length hs) where
  abbrev hub : ℕ
  hub = get_or hs i 0

  more : take (i + 1) hs ≡ take i hs ++ hub ∷ []
  more = ap (λ (k : ℕ). take k hs) (add-one i) ∙ take-suc hs i 0 h

  taken : T (has hub (take (i + 1) hs))
  taken = rw more (has_later hub (take i hs) _ (has_head hub []))

  others : (u : ℕ) → (u ≡ hub → ⊥) → has u (take i hs) ≡ has u (take (i + 1) hs)
  others u d =
      same_test _ _
      (λ t. has_append u (take i hs) (hub ∷ []) t)
      (λ t. at (of_append _ _ _ t))
      ∙ ap (has u) (sym more)
    where
      at : T (has u (take i hs)) ⊎ T (has u (hub ∷ [])) → T (has u (take i hs))
      at (inl t) = t
      at (inr t) = absurd (d (of_single u hub t))

  -- the row that a search through all nodes p gives
  pub full_next : {p : Nodes} {full' : List ℕ} → get_or hs i 0 < n → p ≡ (λ v. ltb v n)
      → full' ≡ written full (get_or hs i 0 * n) (map (fewest (between p (linked n G)) n (get_or hs i 0)) (up_to n))
      → FullTo n G hs t full' (i + 1)
  full_next {p} {full'} k q e =
      let F = full_entry n G (take (i + 1) hs) in
      let row : map (fewest (between p (linked n G)) n hub) (up_to n) ≡ map (F hub) (up_to n) =
      ap (λ (E : Edges). map (fewest E n hub) (up_to n)) (all_allowed p n G q)
      ∙ row_same n (fewest (linked n G) n hub) (F hub) (λ b l. rw (T_true (has hub (take (i + 1) hs)) taken)) in
      let rows : full' ≡ over (full_of n G (take (i + 1) hs)) t =
      e ∙ ap₂ (λ (x y : List ℕ). written x (hub * n) y) r.rows row
      ∙ put_row _ _ k _ _ _ (λ a b ha hb d.
      ap (λ (x : Bool). if x then fewest (linked n G) n a b else none) (others a d)) in
      record { within = omega arith; room = r.room; same = ap length rows ∙ over_length n F t r.room; rows = rows }

-- ---- Low

-- row a of the distances through allowed nodes, if a is one, and if it is none
module _ (n : ℕ) (p : Nodes) (G : Graph) (a : ℕ) where
  pub distance_row : p a ≡ true → map (fewest (between p (linked n G)) n a) (up_to n) ≡ map (distance n p G a) (up_to n)
  distance_row e = row_same n _ _ (λ b h. sym (rw e refl))

  pub distance_none : p a ≡ false → replicate n none ≡ map (distance n p G a) (up_to n)
  distance_none e = none_row n none ∙ row_same n _ _ (λ b h. sym (rw e refl))

module _ (n s : ℕ) (G : Graph) where
  -- Low has the distances through the low nodes p
  pub low_table_lem : (p : Nodes) → p ≡ (λ v. ltb v n && is_low s G v) → distances n p G ≡ low_table n s G
  unfolding low_links low_table
  low_table_lem p q = table_same n _ _ (λ a b ha hb.
      ap₂ (λ (x : Bool) (E : Edges). if x then fewest E n a b else none) (is a ha) (between_same p (is_low s G) n G is)
      ∙ at a b ha (is_low s G a) refl (passes (is_low s G b)))
    where
      is : (v : ℕ) → v < n → p v ≡ is_low s G v
      is = low_are _ _ _ _ q

      at : (a b : ℕ) → a < n → (x : Bool) → is_low s G a ≡ x → T (is_low s G b) ⊎ (T (is_low s G b) → ⊥)
          → (if x then fewest (between (is_low s G) (linked n G)) n a b else none)
          ≡ (if x && is_low s G b then fewest (between (is_low s G) (linked n G)) n a b else none)
      at a b ha false e t = refl
      at a b ha true e (inl t) = rw (T_true (is_low s G b) t)
      at a b ha true e (inr f) = rw (no_false (is_low s G b) f) (between_missed (is_low s G) n G a b ha (true_T (is_low s G a) e) f)
