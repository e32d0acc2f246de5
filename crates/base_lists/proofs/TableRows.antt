-- Tables of n rows of n entries: a row as a part of its table, a table of which one row is written, a table that is written row by row.
-- Assumes nothing.
use mathlib.Core.Path.{◌≡◌, refl, sym, ap, ap₂, ◌∙◌}
use mathlib.Core.List.{List, ◌∷◌, ◌++◌, map, append_assoc}
use Prim.Native.Nat.{ℕ, zero, suc, ◌+◌, ◌-◌, ◌*◌, ◌/◌, ◌%◌, ◌≤◌, ◌<◌}
use native.Mathlib.Nat.{suc-mul, mul-le-mul_right, zero-mul, zero-lt-suc, mod-lt, div-lt_iff_lt-mul, div-add-mod', add-sub_cancel_left}
use native.Mathlib.Omega.{arith}
use borrow.Author.Tests.{lt-ltb, le-ltb}
use lib.Dec.{ltb}
use lib.ListN.{length, get_or, take, drop, take-append-drop, length-append, length-drop, replicate, length-replicate, get_or-replicate}
use lib.Seq.{take-append_seam, drop-append-add, drop_at, ext_get_or, get_or-take, length-take-le}
use Rattle.base_lists.specs.Written.{written}
use Rattle.model.specs.Basics.{from, up_to, gather, over}
use Rattle.std.specs.Prelude.{if◌then◌else◌}
use Rattle.model.specs.Tables.{rows_of, table, entry_at}
use Rattle.model.proofs.Entries.{rows, length_rows, length_row, get_d_row, length_table, entry_table}
use Rattle.model.proofs.Lists.{gather_append, gather_same, from_split, of_from}
use Rattle.model.proofs.Tests.{ltb_next}
use borrow.Rule.Slice.PartMut.{mid_of, put_mid, mid_len}
use Rattle.base_lists.proofs.Written.{put_written}

-- a part of n entries, wherever it starts
pub mid_length : (at n : ℕ) (table : List ℕ) → at + n ≤ length table → length (mid_of at (at + n - at) table) ≡ n
mid_length at n table h = mid_len at (at + n) table h ∙ add-sub_cancel_left at n

pub row_put : (at n : ℕ) (table part row : List ℕ) → length part ≡ n → part ≡ row
    → put_mid at (at + n - at) table part ≡ written table at row
row_put at n table part row l e =
    put_written _ at (at + n - at) part (l ∙ sym (add-sub_cancel_left at n)) ∙ ap (written table at) e

pub row_within : (n a : ℕ) → a < n → a * n + n ≤ n * n
row_within n a h = omega (arith, suc-mul a n, mul-le-mul_right n h)

module _ (n s : ℕ) (table : List ℕ) (h : s < n) (room : n * n ≤ length table) where
  pub row_ends : s * n + n ≤ length table
  row_ends = omega (arith, row_within n s h)

  pub part_length : length (mid_of (s * n) (s * n + n - s * n) table) ≡ n
  part_length = mid_length _ _ _ row_ends

-- a list of n entries is a row if its entries are
pub is_row : (n : ℕ) (f : ℕ → ℕ) (l : List ℕ) → length l ≡ n → ((i : ℕ) → i < n → get_or l i 0 ≡ f i) → l ≡ map f (up_to n)
is_row n f l size e =
    ext_get_or _ _ _ (size ∙ sym (length_row _ _))
    (λ i h. let k : i < n = omega (arith, size) in e i k ∙ sym (get_d_row _ _ _ _ k))

-- rows that agree
pub row_same : (n : ℕ) (f g : ℕ → ℕ) → ((b : ℕ) → b < n → f b ≡ g b) → map f (up_to n) ≡ map g (up_to n)
row_same n f g e = is_row _ _ _ (length_row _ _) (λ i k. get_d_row _ _ _ _ k ∙ e i k)

-- a row of one value
pub none_row : (n v : ℕ) → replicate n v ≡ map (λ b. v) (up_to n)
none_row n v = is_row _ _ _ (length-replicate _ _) (λ i k. get_or-replicate n i v 0 k)

-- a table in front of a list
pub over_table : (n : ℕ) (f : ℕ → ℕ → ℕ) (t : List ℕ) → over (table n f) t ≡ table n f ++ drop (n * n) t
unfolding over
over_table n f t = rw (length_table _ _)

pub over_length : (n : ℕ) (f : ℕ → ℕ → ℕ) (t : List ℕ) → n * n ≤ length t → length (over (table n f) t) ≡ length t
over_length n f t h = rw (over_table, length-append, length_table, length-drop) (omega arith)

-- of the list, only what stands behind the table matters
pub over_same : (n : ℕ) (f : ℕ → ℕ → ℕ) (t u : List ℕ) → drop (n * n) t ≡ drop (n * n) u → over (table n f) t ≡ over (table n f) u
over_same n f t u e = rw (over_table _ _ _, over_table _ _ _, e)

-- rows and tables that agree
rows_same : {n : ℕ} {f g : ℕ → ℕ → ℕ} {k : ℕ} (m : ℕ) → ((a b : ℕ) → k ≤ a → a < k + m → b < n → f a b ≡ g a b) → rows n f k m ≡ rows n g k m
unfolding rows rows_of
rows_same m e =
    gather_same _ _ _
    (λ a h. row_same _ _ _ (λ b l. e a b (of_from _ _ _ h).0 (of_from _ _ _ h).1 l))

pub table_same : (n : ℕ) (f g : ℕ → ℕ → ℕ) → ((a b : ℕ) → a < n → b < n → f a b ≡ g a b) → table n f ≡ table n g
unfolding table up_to rows
table_same n f g e = rows_same _ (λ a b l h k. e a b (omega arith) k)

-- ---- one row written over

-- a part of a list is written over by as many entries
written_over : (A R B S : List ℕ) (at : ℕ) → length A ≡ at → length R ≡ length S → written (A ++ (R ++ B)) at S ≡ A ++ (S ++ B)
unfolding written
written_over A R B S at l e =
    rw (← l, take-append_seam _ _, drop-append-add _ _ _, drop_at R B (length S) e, append_assoc _ _ _)

module _ (n a : ℕ) (h : a < n) where
  -- the rows before a, row a, and the rows after it
  split_rows : (f : ℕ → ℕ → ℕ) → table n f ≡ rows n f 0 a ++ (map (f a) (up_to n) ++ rows n f (suc a) (n - suc a))
  unfolding table rows gather up_to rows_of
  split_rows f =
      ap (gather (λ u. map (f u) (up_to n))) (from_split a (n - suc a) n (omega arith))
      ∙ gather_append (λ u. map (f u) (up_to n)) (up_to a) (a ∷ from (suc a) (n - suc a))

  -- and what stands behind the table
  split_over : (f : ℕ → ℕ → ℕ) (t : List ℕ)
      → over (table n f) t ≡ rows n f 0 a ++ (map (f a) (up_to n) ++ (rows n f (suc a) (n - suc a) ++ drop (n * n) t))
  split_over f t = rw (over_table, split_rows, append_assoc _, append_assoc _)

  -- so row a is written over, and the others stay
  pub put_row : (f g : ℕ → ℕ → ℕ) (t : List ℕ) → ((u b : ℕ) → u < n → b < n → (u ≡ a → ⊥) → f u b ≡ g u b)
      → written (over (table n f) t) (a * n) (map (g a) (up_to n)) ≡ over (table n g) t
  put_row f g t e =
      let earlier : rows n f 0 a ≡ rows n g 0 a = rows_same _ (λ u b l k i. e u b (omega arith) i (λ z. omega arith)) in
      let later : rows n f (suc a) (n - suc a) ≡ rows n g (suc a) (n - suc a) =
      rows_same _ (λ u b l k i. e u b (omega arith) i (λ z. omega arith)) in
      let place : length (rows n f 0 a) ≡ a * n = length_rows _ _ _ _ in
      let size : length (map (f a) (up_to n)) ≡ length (map (g a) (up_to n)) = length_row _ _ ∙ sym (length_row _ _) in
      rw (split_over _ _, split_over _ _, ← earlier, ← later, written_over)

-- ---- entries by their place in the list

module _ (n : ℕ) (f : ℕ → ℕ → ℕ) where
  pub table_at : (i : ℕ) → i < n * n → get_or (table n f) i 0 ≡ f (i / n) (i % n)
  unfolding entry_at
  table_at i k =
      ap (λ (j : ℕ). get_or (table n f) j 0) (sym (div-add-mod' _ _))
      ∙ entry_table _ _ _ _ ((div-lt_iff_lt-mul (some _ k)).1 k) (mod-lt _ (some _ k))
    where
      some : (m : ℕ) → i < m * m → 0 < m
      some zero k = absurd (omega (arith, zero-mul 0))
      some (suc m) k = zero-lt-suc _

  -- a list of n * n entries is a table if its entries are
  pub is_table : {l : List ℕ} → length l ≡ n * n → ((i : ℕ) → i < n * n → get_or l i 0 ≡ f (i / n) (i % n)) → l ≡ table n f
  is_table size e =
      ext_get_or _ _ _ (size ∙ sym (length_table _ _))
      (λ i k. let j : i < n * n = omega (arith, size) in e i j ∙ sym (table_at i j))

-- a list that is long enough is the table of its entries, and what stands behind it
own_table : (n : ℕ) {t : List ℕ} → n * n ≤ length t → t ≡ over (table n (entry_at n t)) t
unfolding entry_at
own_table n {t} h =
    let front : take (n * n) t ≡ table n (entry_at n t) =
    is_table _ _ (length-take-le _ _ h)
    (λ i k. get_or-take (n * n) t i 0 k ∙ ap (λ (j : ℕ). get_or t j 0) (sym (div-add-mod' _ _))) in
    sym (take-append-drop (n * n) t) ∙ rw (front, over_table n (entry_at n t) t)

-- a front of one value
pub one_value : (n v : ℕ) (t : List ℕ) → replicate (n * n) v ++ drop (n * n) t ≡ over (table n (λ a b. v)) t
one_value n v t =
    let front : replicate (n * n) v ≡ table n (λ a b. v) =
    is_table _ _ (length-replicate _ _) (λ i k. get_or-replicate (n * n) i v 0 k) in
    rw (front, over_table)

-- ---- a table that is written row by row: after a rows, the others are as they were

module _ (n : ℕ) (F : ℕ → ℕ → ℕ) (t : List ℕ) where
  -- entry (u, b) after a rows
  abbrev entry_to : ℕ → ℕ → ℕ → ℕ
  entry_to a u b = if ltb u a then F u b else entry_at n t u b

  unfoldable rows_to : ℕ → List ℕ
  rows_to a = over (table n (entry_to a)) t

-- a rows of the table of F were written over the list t
pub record RowsTo (n : ℕ) (F : ℕ → ℕ → ℕ) (t list : List ℕ) (a : ℕ) : Type 0 where
  pub within : a ≤ n
  pub room : n * n ≤ length t
  pub same : length list ≡ length t
  rows : list ≡ rows_to n F t a

pub rows_none : {n : ℕ} {F : ℕ → ℕ → ℕ} {t : List ℕ} → n * n ≤ length t → RowsTo n F t t 0
unfolding rows_to
rows_none {n} {F} {t} h = record {
  within = omega arith;
  room = h;
  same = refl;
  rows = own_table _ h
      ∙ ap (λ (x : List ℕ). over x t) (table_same _ _ _ (λ u b hu hb. rw (le-ltb u 0 (omega arith)) refl));
}

module _ {n : ℕ} {F : ℕ → ℕ → ℕ} {t list : List ℕ} {a : ℕ} (r : RowsTo n F t list a) where
  pub rows_next : {list' : List ℕ} → a < n → list' ≡ written list (a * n) (map (F a) (up_to n)) → RowsTo n F t list' (a + 1)
  unfolding rows_to
  rows_next {list'} h e =
      let next = entry_to n F t (a + 1) in
      let row : map (F a) (up_to n) ≡ map (next a) (up_to n) = row_same _ _ _ (λ b k. rw (lt-ltb a (a + 1) (omega arith)) refl) in
      let rows : list' ≡ rows_to n F t (a + 1) =
      e ∙ ap₂ (λ (x y : List ℕ). written x (a * n) y) r.rows row
      ∙ put_row _ _ h _ _ _ (λ u b hu hb other. rw (ltb_next u a other)) in
      record { within = omega arith; room = r.room; same = ap length rows ∙ over_length n next t r.room; rows = rows }

  -- the same where row a is written as a part of the list
  pub rows_part : {part : List ℕ} → a < n → length part ≡ length (mid_of (a * n) (a * n + n - a * n) list) → part ≡ map (F a) (up_to n)
      → RowsTo n F t (put_mid (a * n) (a * n + n - a * n) list part) (a + 1)
  rows_part h l e =
      rows_next h (row_put (a * n) n list _ _ (l ∙ part_length n a list h (omega (arith, r.same, r.room))) e)

  pub rows_done : n ≤ a → list ≡ over (table n F) t
  unfolding rows_to
  rows_done h =
      r.rows ∙ ap (λ (x : List ℕ). over x t) (table_same _ _ _ (λ u b hu hb. rw (lt-ltb u a (omega arith)) refl))
