-- A table has n * n entries, and entry (a, b) of `table n f` is f a b.
-- Assumes nothing.
use mathlib.Core.Path.{◌≡◌, refl, sym, ap, ◌∙◌}
use mathlib.Core.Bool.{false, ◌||◌}
use mathlib.Core.List.{List, ◌++◌, map}
use Prim.Native.Nat.{ℕ, zero, suc, ◌+◌, ◌*◌, ◌≤◌, ◌<◌}
use native.Mathlib.Nat.{add-zero, zero-add, add-suc, suc-add, suc-mul, zero-mul, mul-le-mul_right, le_of_suc-le-suc, not-suc-le-zero}
use native.Mathlib.Omega.{arith}
use lib.ListN.{length, get_or, take, replicate, length-take, length-append, length-map, get_or-append}
use borrow.Author.Tests.{le-ltb, ltb-false}
use lib.Dec.{ltb}
use lib.Seq.{get_or-append-add, get_or-take, take_all}
use Rattle.model.specs.Basics.{from, up_to, gather}
use Rattle.model.specs.Tables.{rows_of, table, entry_at, short_tables}
use Rattle.model.proofs.Tests.{of_or_false}
use Rattle.model.proofs.Lists.{length_up_to}

get_d_numbers : (k m i d : ℕ) → i < m → get_or (from k m) i d ≡ k + i
unfolding from
get_d_numbers k zero i d h = absurd (not-suc-le-zero h)
get_d_numbers k (suc m) zero d h = sym (add-zero _)
get_d_numbers k (suc m) (suc i) d h = get_d_numbers (suc k) m _ _ (le_of_suc-le-suc h) ∙ suc-add _ _ ∙ sym (add-suc _ _)

-- a list of one value reads that value everywhere, past its end too
pub get_d_same : (n i d : ℕ) → get_or (replicate n d) i d ≡ d
get_d_same zero i d = refl
get_d_same (suc n) zero d = refl
get_d_same (suc n) (suc i) d = get_d_same n _ _

-- the i-th of the numbers below n is i
pub get_d_up_to : (n i d : ℕ) → i < n → get_or (up_to n) i d ≡ i
unfolding up_to
get_d_up_to n i d h = get_d_numbers _ _ _ _ h ∙ zero-add _

get_d_from : (g : ℕ → ℕ) (k m i d : ℕ) → i < m → get_or (map g (from k m)) i d ≡ g (k + i)
unfolding from
get_d_from g k zero i d h = absurd (not-suc-le-zero h)
get_d_from g k (suc m) zero d h = ap g (sym (add-zero _))
get_d_from g k (suc m) (suc i) d h = get_d_from g (suc k) m _ _ (le_of_suc-le-suc h) ∙ ap g (suc-add _ _ ∙ sym (add-suc _ _))

pub get_d_row : (g : ℕ → ℕ) (n i d : ℕ) → i < n → get_or (map g (up_to n)) i d ≡ g i
unfolding up_to
get_d_row g n i d h = get_d_from g 0 n i d h ∙ ap g (zero-add i)

pub length_row : (g : ℕ → ℕ) (n : ℕ) → length (map g (up_to n)) ≡ n
length_row g n = length-map (up_to n) g ∙ length_up_to _

module _ (n : ℕ) (f : ℕ → ℕ → ℕ) where
  -- the m rows from row k on
  unfoldable pub rows : ℕ → ℕ → List ℕ
  rows k m = rows_of n f (from k m)

  pub length_rows : (k m : ℕ) → length (rows k m) ≡ m * n
  unfolding rows from gather rows_of
  length_rows k zero = sym (zero-mul _)
  length_rows k (suc m) =
      length-append (map (f k) (up_to n)) (rows (suc k) m) ∙ omega (arith, length_row (f k) n, length_rows (suc k) m, suc-mul m n)

  get_d_rows : (k m i j : ℕ) → i < m → j < n → get_or (rows k m) (i * n + j) 0 ≡ f (k + i) j
  unfolding rows from gather rows_of
  get_d_rows k zero i j hi hj = absurd (not-suc-le-zero hi)
  get_d_rows k (suc m) zero j hi hj =
      let row = map (f k) (up_to n) in
      let e : zero * n + j ≡ j = omega (arith, zero-mul n) in
      let b : j < length row = omega (arith, length_row (f k) n) in
      ap (λ (x : ℕ). get_or (row ++ rows (suc k) m) x 0) e
      ∙ get_or-append row _ _ _ b
      ∙ get_d_row (f k) _ _ _ hj
      ∙ ap (λ (x : ℕ). f x j) (sym (add-zero _))
  get_d_rows k (suc m) (suc i) j hi hj =
      let row = map (f k) (up_to n) in
      let e : suc i * n + j ≡ length row + (i * n + j) = omega (arith, suc-mul i n, length_row (f k) n) in
      ap (λ (x : ℕ). get_or (row ++ rows (suc k) m) x 0) e
      ∙ get_or-append-add row _ _ _
      ∙ get_d_rows (suc k) m _ _ (le_of_suc-le-suc hi) hj
      ∙ ap (λ (x : ℕ). f x j) (suc-add _ _ ∙ sym (add-suc _ _))

  pub length_table : length (table n f) ≡ n * n
  unfolding table up_to rows rows_of
  length_table = length_rows _ _

  pub entry_table : (a b : ℕ) → a < n → b < n → entry_at n (table n f) a b ≡ f a b
  unfolding table up_to rows entry_at rows_of
  entry_table a b ha hb = get_d_rows _ _ _ _ ha hb ∙ rw (zero-add _)

-- an entry's place in its table; and a table has at most 1,048,576 entries
pub place_inside : (n a b : ℕ) → a < n → b < n → a * n + b < n * n
place_inside n a b ha hb = omega (arith, suc-mul a n, mul-le-mul_right n ha)

-- entries of a longer list whose front is a table
pub entry_front : (n : ℕ) (t u : List ℕ) → take (n * n) t ≡ u → (a b : ℕ) → a < n → b < n → entry_at n t a b ≡ entry_at n u a b
unfolding entry_at
entry_front n t u e a b ha hb =
    sym (get_or-take _ _ _ _ (place_inside _ _ _ ha hb)) ∙ ap (λ (l : List ℕ). get_or l (a * n + b) 0) e

pub front_length : (k : ℕ) (t u : List ℕ) → take k t ≡ u → length u ≡ k → k ≤ length t
front_length k t u e l = omega (arith, length-take k t, ap length e, l)

pub table_front : (n : ℕ) (f : ℕ → ℕ → ℕ) → take (n * n) (table n f) ≡ table n f
table_front n f = take_all (n * n) (table n f) (omega (arith, length_table n f))

-- the test of the three lengths fails exactly where each table has room
pub long_tables : (n f l r : ℕ) → n * n ≤ f → n * n ≤ l → n * n ≤ r → short_tables n f l r ≡ false
long_tables n f l r hf hl hr = rw (le-ltb f (n * n) hf, le-ltb l (n * n) hl, le-ltb r (n * n) hr) refl

pub of_long_tables : (n f l r : ℕ) → short_tables n f l r ≡ false → (n * n ≤ f) × (n * n ≤ l) × (n * n ≤ r)
of_long_tables n f l r e =
    let p = of_or_false (ltb f (n * n) || ltb l (n * n)) (ltb r (n * n)) e in
    let q = of_or_false (ltb f (n * n)) (ltb l (n * n)) p.0 in
    (ltb-false _ _ q.0, ltb-false _ _ q.1, ltb-false _ _ p.1)
