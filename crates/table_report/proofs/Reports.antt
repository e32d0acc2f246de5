-- A row of Report, hub by hub, then by the links; and Report from tables that stand in front of longer lists.
-- Assumes nothing.
use mathlib.Core.Path.{◌≡◌, refl, sym, ap, ap₂, ◌∙◌}
use mathlib.Core.Logic.{◌⊎◌, inl, inr}
use mathlib.Core.Bool.{◌||◌}
use mathlib.Core.List.{List, [], ◌∷◌, ◌++◌, map}
use Prim.Native.Nat.{ℕ, ◌+◌, ◌-◌, ◌*◌, ◌≤◌, ◌<◌, min}
use native.Mathlib.Numerals.{add-one}
use native.Mathlib.Omega.{arith}
use borrow.Author.Tests.{eq-eqb, ne_eqb}
use borrow.Rule.Slice.PartMut.{mid_of}
use lib.Dec.{T, eqb}
use lib.ListN.{length, get_or, take, drop, set, length-set}
use lib.Seq.{take_at, get_or-take, get_or-drop, take-suc, take_all, get_or-set_same, get_or-set_other}
use Rattle.base_lists.specs.Written.{Wrote}
use Rattle.base_lists.proofs.Written.{wrote_over, over_whole}
use Rattle.base_lists.proofs.TableRows.{part_length, row_within, is_row, row_same, table_same}
use Rattle.model.specs.Basics.{none, up_to, has, over}
use Rattle.std.specs.Prelude.{if◌then◌else◌}
use Rattle.model.specs.Survey.{Graph, IsGraph}
use Rattle.model.specs.Graph.{linked}
use Rattle.model.specs.Tables.{table, entry_at, sum, via, least, report_entry, report_of}
use Rattle.model.proofs.Acceptance.{linked_own}
use Rattle.model.proofs.Ascending.{get_d_has}
use Rattle.model.proofs.Allowance.{least_base}
use Rattle.model.proofs.Entries.{length_row, get_d_row, length_table, entry_front, place_inside}
use Rattle.model.proofs.Lists.{has_head, has_tail}
use Rattle.model.proofs.Tests.{eq_or}
use Rattle.table_report.specs.Relaxed.{relaxed, links_set}

-- row a of a table, as a part of the list
own_row : (n a : ℕ) (t : List ℕ) → a < n → n * n ≤ length t → mid_of (a * n) (a * n + n - a * n) t ≡ map (entry_at n t a) (up_to n)
unfolding entry_at
own_row n a t h room =
    is_row _ _ _ (part_length n a t h room) (λ b k.
    get_or-take (a * n + n - a * n) (drop (a * n) t) b 0 (omega arith) ∙ get_or-drop (a * n) t b 0)

relaxed_row : (x : ℕ) (f g : ℕ → ℕ) (l : List ℕ) → relaxed x (map f l) (map g l) ≡ map (λ b. min (x + f b) (g b)) l
unfolding relaxed
relaxed_row x f g [] = refl
relaxed_row x f g (y ∷ l) = ap (λ (r : List ℕ). min (x + f y) (g y) ∷ r) (relaxed_row x f g l)

-- a sum with a none in it is never the lesser
lesser_sum : (x y : ℕ) {e : ℕ} → e ≤ none → min (x + y) e ≡ min (sum x y) e
unfolding sum
lesser_sum x y {e} h = at (eq_or _ _) (eq_or _ _)
  where
    at : (x ≡ none) ⊎ (x ≡ none → ⊥) → (y ≡ none) ⊎ (y ≡ none → ⊥)
        → min (x + y) e ≡ min (if eqb x none || eqb y none then none else x + y) e
    at (inl p) q = rw (eq-eqb x none p) (omega arith)
    at (inr p) (inl q) = rw (ne_eqb x none p, eq-eqb y none q) (omega arith)
    at (inr p) (inr q) = rw (ne_eqb x none p, ne_eqb y none q)

-- ---- a row of Report, hub by hub, then by the links

-- the least over Low and the first k hubs
abbrev least_to : (n : ℕ) (full low hs : List ℕ) (a k b : ℕ) → ℕ
least_to n full low hs a k b = least (via n full a b) (entry_at n low a b) (take k hs)

-- one hub more
least_snoc : (f : ℕ → ℕ) (x u : ℕ) (l : List ℕ) → least f x (l ++ u ∷ []) ≡ min (f u) (least f x l)
least_snoc f x u [] = refl
least_snoc f x u (h ∷ l) = omega (arith, least_snoc f x u l)

-- after k hubs, the entries of row a are the least over Low and those hubs
pub record RowTo (n : ℕ) (full low hs : List ℕ) (a : ℕ) (row : List ℕ) (k : ℕ) : Type 0 where
  pub within : k ≤ length hs
  pub long : length row ≡ n
  pub says : row ≡ map (least_to n full low hs a k) (up_to n)

-- before the first hub it is Low's row, copied
pub row_copied : {n : ℕ} {full low hs : List ℕ} {a : ℕ} {row : List ℕ} → n * n ≤ length low → a < n
    → row ≡ mid_of (a * n) (a * n + n - a * n) low → RowTo n full low hs a row 0
row_copied {n} {low = low} {a = a} room h copied = record {
  within = omega arith;
  long = ap length copied ∙ part_length n a low h room;
  says = copied ∙ own_row n a low h room;
}

pub row_none : {n e : ℕ} {full low hs : List ℕ} {a : ℕ} {row₀ row : List ℕ} → n * n ≤ length low → a < n → length row₀ ≡ n
    → Wrote row₀ row 0 e (mid_of (a * n) (a * n + n - a * n) low) → RowTo n full low hs a row 0
row_none {n} {low = low} {a = a} room h long w =
    row_copied room h ((wrote_over _ w).0 ∙ over_whole _ _ (long ∙ sym (part_length n a _ h room)))

-- hub k, and the places of its row of Full and of its entry for a
pub record HubInside (n : ℕ) (hs : List ℕ) (a k : ℕ) : Type 0 where
  pub hub_below : get_or hs k 0 < n
  pub entry_below : get_or hs k 0 * n + a < n * n
  pub row_end : get_or hs k 0 * n + n ≤ n * n

pub hub_inside : {n : ℕ} {hs : List ℕ} {a k : ℕ} → ((h : ℕ) → T (has h hs) → h < n) → a < n → k < length hs → HubInside n hs a k
hub_inside {n} {hs} {a} {k} below h i =
    let hub_below : get_or hs k 0 < n = below _ (get_d_has hs k i) in
    record { hub_below = hub_below; entry_below = place_inside n _ a hub_below h; row_end = row_within n _ hub_below }

module _ {n : ℕ} {full low hs : List ℕ} {a : ℕ} {row : List ℕ} {k : ℕ} (r : RowTo n full low hs a row k) where
  -- hub k's row of Full improves it
  pub row_next : {row' : List ℕ} → n * n ≤ length full → ((i : ℕ) → get_or low i 0 ≤ none) → k < length hs → get_or hs k 0 < n
      → row' ≡ relaxed (get_or full (get_or hs k 0 * n + a) 0) (mid_of (get_or hs k 0 * n) (get_or hs k 0 * n + n - get_or hs k 0 * n) full) row
      → RowTo n full low hs a row' (k + 1)
  unfolding via entry_at
  row_next {row'} room small h below e =
      let u = get_or hs k 0 in
      let to = least_to n full low hs a in
      let more : take (k + 1) hs ≡ take k hs ++ u ∷ [] = ap (λ (j : ℕ). take j hs) (add-one k) ∙ take-suc hs k 0 h in
      let lesser : (b : ℕ) → b < n → min (entry_at n full u a + entry_at n full u b) (to k b) ≡ to (k + 1) b =
      λ b l.
      lesser_sum _ _
      (omega (arith, small (a * n + b), least_base (via n full a b) (entry_at n low a b) (take k hs)))
      ∙ sym (least_snoc (via n full a b) (entry_at n low a b) u (take k hs))
      ∙ ap (least (via n full a b) (entry_at n low a b)) (sym more) in
      let says : row' ≡ map (to (k + 1)) (up_to n) =
      e ∙ ap₂ (relaxed (entry_at n full u a)) (own_row n u _ below room) r.says
      ∙ relaxed_row _ (entry_at n full u) (to k) (up_to n)
      ∙ row_same n _ _ lesser in
      record { within = omega arith; long = ap length says ∙ length_row (to (k + 1)) n; says = says }

  -- all hubs, then 1 at a's neighbours and 0 at a itself
  pub row_done : {G : Graph} {own row' : List ℕ} → length hs ≤ k → a < n → IsGraph n G → own ≡ G a → row' ≡ links_set own row
      → set row' a 0 ≡ map (report_entry n G full low hs a) (up_to n)
  unfolding links_set
  row_done {G} {own} {row'} h l graph lent e =
      is_row _ _ _ (length-set row' a 0 ∙ long') (λ b j. at b j (eq_or _ _))
    where
      long' : length row' ≡ n
      long' = ap length e ∙ length_row _ _ ∙ r.long

      at : (b : ℕ) → b < n → (a ≡ b) ⊎ (a ≡ b → ⊥) → get_or (set row' a 0) b 0 ≡ report_entry n G full low hs a b
      at b j (inl q) =
          rw (eq-eqb a b q) (
          ap (λ (c : ℕ). get_or (set row' a 0) c 0) (sym q) ∙ get_or-set_same row' a 0 0 (omega (arith, long')))
      at b j (inr d) =
          rw (ne_eqb a b d, linked_own n G graph a b l, ← lent) (
          get_or-set_other row' a b 0 0 (λ q. d (sym q))
          ∙ ap (λ (t : List ℕ). get_or t b 0) e
          ∙ get_d_row _ _ b 0 (omega (arith, r.long))
          ∙ ap (λ (x : ℕ). if has b own then 1 else x) (
          ap (λ (t : List ℕ). get_or t b 0) r.says
          ∙ get_d_row (least_to n full low hs a k) n b 0 j
          ∙ ap (least (via n full a b) (entry_at n low a b)) (take_all k hs h)))

-- ---- Report from tables that stand in front of longer lists

entry_over : (n : ℕ) (f : ℕ → ℕ → ℕ) (t : List ℕ) (a b : ℕ) → a < n → b < n
    → entry_at n (over (table n f) t) a b ≡ entry_at n (table n f) a b
unfolding over
entry_over n f t a b ha hb =
    entry_front n _ _ (take_at _ _ _ (length_table _ _)) a b ha hb

pub report_same : (n : ℕ) (G : Graph) (f g : ℕ → ℕ → ℕ) (full low hs : List ℕ) → ((h : ℕ) → T (has h hs) → h < n)
    → report_of n G (over (table n f) full) (over (table n g) low) hs ≡ report_of n G (table n f) (table n g) hs
unfolding via
report_same n G f g full low hs below =
    table_same _ _ _ (λ a b ha hb.
    ap (λ (x : ℕ). if eqb a b then 0 else if linked n G a b then 1 else x) (at a b ha hb hs below))
  where
    full' : List ℕ
    full' = over (table n f) full

    low' : List ℕ
    low' = over (table n g) low

    at : (a b : ℕ) → a < n → b < n → (l : List ℕ) → ((h : ℕ) → T (has h l) → h < n)
        → least (via n full' a b) (entry_at n low' a b) l ≡ least (via n (table n f) a b) (entry_at n (table n g) a b) l
    at a b ha hb [] below = entry_over n g low a b ha hb
    at a b ha hb (h ∷ l) below =
        let k = below h (has_head _ _) in
        ap₂ min (ap₂ sum (entry_over n f full h a k ha) (entry_over n f full h b k hb)) (at a b ha hb l (λ u m. below u (has_tail u h l m)))
