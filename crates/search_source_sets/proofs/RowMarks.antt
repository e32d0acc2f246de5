-- The sources that are new at a node get their distance: in the part of the node's row that has one bit's sources, and bit by bit in the
-- whole row.
-- Assumes nothing.
use mathlib.Core.Path.{◌≡◌, refl, sym, ap, ◌∙◌, subst}
use mathlib.Core.Logic.{◌⊎◌, inl, inr, ⊎_elim}
use mathlib.Core.Bool.{Bool, true, false, ◌&&◌}
use mathlib.Core.List.{List}
use Prim.Native.Nat.{ℕ, ◌+◌, ◌-◌, ◌*◌, ◌/◌, ◌%◌, ◌^◌, ◌≤◌, ◌<◌}
use native.Mathlib.Nat.{mod-eq_of_lt, zero-add}
use native.Mathlib.Omega.{arith}
use borrow.Author.Tests.{eq-eqb, ne_eqb}
use borrow.Rule.Slice.PartMut.{mid_of, put_mid, mid_len}
use lib.Bits.{bit_and, bit_or, and_mask, and_zero_r, or_zero_r, or_zero_l}
use lib.Count.{count_trailing_zeros}
use lib.Dec.{T, eqb}
use lib.ListN.{length, get_or, set, length-set}
use lib.Seq.{get_or-set_same, get_or-set_other}
use Rattle.model.specs.Basics.{from, up_to, has, keep}
use Rattle.std.specs.Prelude.{if◌then◌else◌}
use Rattle.model.proofs.Loops.{below_next}
use Rattle.model.proofs.Lists.{has_keep, has_up_to, of_cons, none_in}
use Rattle.model.proofs.Tests.{eq_or, lt_or, passes, no_false}
use Rattle.base_lists.proofs.PartEntries.{mid_at, put_before, put_after, put_within}
use Rattle.base_nodeset.specs.NodeSet.{bit, members_from}
use Rattle.base_nodeset.proofs.Members.{bits_none, row_word, Lowest}
use Rattle.search_source_sets.specs.SourceSets.{in_row, Covers}

-- ---- one entry: a mask of ones takes the distance, a mask of zeros what stood there

pub selected : (w b x d : ℕ) → x < 2 ^ 16 → d < 2 ^ 16
    → bit_or (bit_and x ((2 ^ 16 - 1) - w / 2 ^ b % 2 * 65535)) (bit_and d (w / 2 ^ b % 2 * 65535)) ≡ (if bit w b then d else x)
unfolding bit
selected w b x d hx hd = ⊎_elim
    (λ (e : w / 2 ^ b % 2 ≡ 1). rw (e) (
    ap (λ (y : ℕ). bit_or y (bit_and d 65535)) (and_zero_r x) ∙ or_zero_l (bit_and d 65535) ∙ and_mask d 16 ∙ mod-eq_of_lt hd))
    (λ (f : w / 2 ^ b % 2 ≡ 1 → ⊥).
    let e : w / 2 ^ b % 2 ≡ 0 = omega arith in
    rw (e) (
    ap (λ (y : ℕ). bit_or (bit_and x 65535) y) (and_zero_r d) ∙ or_zero_r (bit_and x 65535) ∙ and_mask x 16 ∙ mod-eq_of_lt hx))
    (eq_or (w / 2 ^ b % 2) 1)

-- ---- one bit's part of a row, entry by entry

pub record Marking (new : List ℕ) (b d : ℕ) (p₀ p : List ℕ) (i : ℕ) : Type 0 where
  pub within : i ≤ length p₀
  pub same : length p ≡ length p₀
  pub done : (k : ℕ) → k < i → get_or p k 0 ≡ (if bit (get_or new k 0) b then d else get_or p₀ k 0)
  pub rest : (k : ℕ) → i ≤ k → get_or p k 0 ≡ get_or p₀ k 0

module _ (new : List ℕ) (b d : ℕ) (p₀ : List ℕ) where
  pub marking_none : Marking new b d p₀ p₀ 0
  marking_none = record { within = omega arith; same = refl; done = λ k h. absurd (omega arith); rest = λ k h. refl }

  module _ (p : List ℕ) (i : ℕ) (h : Marking new b d p₀ p i) where
    pub marking_more : (x : ℕ) → i < length p → x ≡ (if bit (get_or new i 0) b then d else get_or p i 0) → Marking new b d p₀ (set p i x) (i + 1)
    marking_more x l e = record {
      within = omega (arith, h.same);
      same = length-set p i x ∙ h.same;
      done = below_next (λ (k : ℕ). get_or (set p i x) k 0 ≡ (if bit (get_or new k 0) b then d else get_or p₀ k 0)) i
          (λ k q. get_or-set_other p i k x 0 (omega arith) ∙ h.done k q)
          (get_or-set_same p i x 0 l ∙ e ∙ ap (λ (y : ℕ). if bit (get_or new i 0) b then d else y) (h.rest i (omega arith)));
      rest = λ k q. get_or-set_other p i k x 0 (omega arith) ∙ h.rest k (omega arith);
    }

    pub marking_all : length p ≤ i → (k : ℕ) → k < length p₀ → get_or p k 0 ≡ (if bit (get_or new k 0) b then d else get_or p₀ k 0)
    marking_all l k q = h.done k (omega (arith, h.same))

-- ---- the part put back into its row, in which it ends after 16 entries or with the row

module _ (new : List ℕ) (b d e : ℕ) (r p : List ℕ) (starts : 16 * b < e) (ends : e ≤ length r) (few : e ≤ 16 * b + 16)
    (all : (e ≡ 16 * b + 16) ⊎ (e ≡ length r)) (size : length p ≡ length (mid_of (16 * b) (e - 16 * b) r))
    (marked : (i : ℕ) → i < length (mid_of (16 * b) (e - 16 * b) r)
    → get_or p i 0 ≡ (if bit (get_or new i 0) b then d else get_or (mid_of (16 * b) (e - 16 * b) r) i 0)) where
  mid : length (mid_of (16 * b) (e - 16 * b) r) ≡ e - 16 * b
  mid = mid_len (16 * b) e r ends

  other : (j : ℕ) → (j / 16 ≡ b → ⊥) → get_or r j 0 ≡ (if eqb (j / 16) b && in_row new j then d else get_or r j 0)
  other j f = rw (ne_eqb (j / 16) b f)

  pub bit_marked : (j : ℕ) → j < length r
      → get_or (put_mid (16 * b) (e - 16 * b) r p) j 0 ≡ (if eqb (j / 16) b && in_row new j then d else get_or r j 0)
  unfolding in_row
  bit_marked j h = at (lt_or j (16 * b)) (lt_or j e)
    where
      inside : 16 * b ≤ j → j < e → get_or (put_mid (16 * b) (e - 16 * b) r p) j 0 ≡ (if eqb (j / 16) b && in_row new j then d else get_or r j 0)
      inside g k =
          let i = j - 16 * b in
          let place : 16 * b + i ≡ j = omega arith in
          let lane : j % 16 ≡ i = omega arith in
          let block : j / 16 ≡ b = omega arith in
          ap (λ (x : ℕ). get_or (put_mid (16 * b) (e - 16 * b) r p) x 0) (sym place)
          ∙ put_within (16 * b) e r p (omega arith) ends (size ∙ mid) i (omega arith)
          ∙ marked i (omega (arith, mid))
          ∙ ap (λ (x : ℕ). if bit (get_or new i 0) b then d else x)
          (mid_at (16 * b) (e - 16 * b) r i (omega arith) ∙ ap (λ (x : ℕ). get_or r x 0) place)
          ∙ sym (rw (lane, block, eq-eqb b b refl))

      at : (j < 16 * b) ⊎ (16 * b ≤ j) → (j < e) ⊎ (e ≤ j)
          → get_or (put_mid (16 * b) (e - 16 * b) r p) j 0 ≡ (if eqb (j / 16) b && in_row new j then d else get_or r j 0)
      at (inl g) s = put_before (16 * b) e r p (omega arith) ends (size ∙ mid) j g ∙ other j (λ (q : j / 16 ≡ b). omega arith)
      at (inr g) (inl k) = inside g k
      at (inr g) (inr k) = put_after (16 * b) e r p (omega arith) ends (size ∙ mid) j k ∙ other j (λ (q : j / 16 ≡ b).
          ⊎_elim (λ (u : e ≡ 16 * b + 16). omega arith) (λ (u : e ≡ length r). omega arith) all)

-- a bit whose part would begin behind the row
pub bit_behind : (new : List ℕ) (b d : ℕ) (r : List ℕ) → length r ≤ 16 * b → (j : ℕ) → j < length r
    → get_or r j 0 ≡ (if eqb (j / 16) b && in_row new j then d else get_or r j 0)
bit_behind new b d r l j h = rw (ne_eqb (j / 16) b (λ (q : j / 16 ≡ b). omega arith))

-- ---- the whole row, bit by bit

-- a set bit is among the members
bit_member : (w k : ℕ) → k < 16 → T (bit w k) → T (has k (members_from 16 0 w))
unfolding keep up_to from
bit_member w k h t = subst (λ (l : List ℕ). T (has k l)) (row_word 0 w (bit w) (λ i l. ap (bit w) (zero-add i)))
    (has_keep (bit w) (up_to 16) k (has_up_to 16 k h) t)

-- an entry has its last value, or its bit is left and it is as it was
pub record RowMarking (new : List ℕ) (d : ℕ) (r₀ r : List ℕ) (left : ℕ) : Type 0 where
  pub small : left < 2 ^ 16
  pub same : length r ≡ length r₀
  pub done : (j : ℕ) → j < length r₀ → (get_or r j 0 ≡ (if in_row new j then d else get_or r₀ j 0))
      ⊎ (T (has (j / 16) (members_from 16 0 left)) × (get_or r j 0 ≡ get_or r₀ j 0))

module _ (new : List ℕ) (d : ℕ) (r₀ : List ℕ) where
  -- at first the bits are left that some lane has
  pub row_none : (found : ℕ) → found < 2 ^ 16 → length r₀ ≤ 256 → Covers new found → RowMarking new d r₀ r₀ found
  row_none found small few c = record {
    small = small;
    same = refl;
    done = λ j h. ⊎_elim
        (λ t. inr (bit_member found (j / 16) (omega arith) (c j t), refl))
        (λ f. inl (rw (no_false (in_row new j) f)))
        (passes (in_row new j));
  }

  pub row_all : (r : List ℕ) (left : ℕ) → left ≡ 0 → RowMarking new d r₀ r left
      → (j : ℕ) → j < length r₀ → get_or r j 0 ≡ (if in_row new j then d else get_or r₀ j 0)
  row_all r left z m j h = ⊎_elim
      (λ e. e)
      (λ s. absurd (none_in (j / 16)
      (subst (λ (l : List ℕ). T (has (j / 16) l)) (ap (members_from 16 0) z ∙ bits_none 16 0) s.0)))
      (m.done j h)

  module _ (r : List ℕ) (left : ℕ) (m : RowMarking new d r₀ r left) (low : Lowest 16 0 left) (r' : List ℕ) (l : length r' ≡ length r)
      (e : (j : ℕ) → j < length r
      → get_or r' j 0 ≡ (if eqb (j / 16) (count_trailing_zeros 16 left) && in_row new j then d else get_or r j 0)) where
    abbrev b : ℕ
    b = count_trailing_zeros 16 left

    abbrev Last : ℕ → Type 0
    Last j = get_or r' j 0 ≡ (if in_row new j then d else get_or r₀ j 0)

    -- the entry is written, or its bit is another one
    written : (j : ℕ) → j < length r₀ → j / 16 ≡ b → get_or r j 0 ≡ get_or r₀ j 0 → Last j
    written j h q f = e j (omega (arith, m.same)) ∙ rw (eq-eqb (j / 16) b q, f)

    kept : (j : ℕ) → j < length r₀ → get_or r j 0 ≡ (if in_row new j then d else get_or r₀ j 0) → Last j
    kept j h f = e j (omega (arith, m.same)) ∙ rw f (either d (get_or r₀ j 0) (eqb (j / 16) b) (in_row new j))
      where
        either : (x y : ℕ) (t u : Bool) → (if t && u then x else if u then x else y) ≡ (if u then x else y)
        either x y true true = refl
        either x y true false = refl
        either x y false u = refl

    next : (j : ℕ) → j < length r₀ → (get_or r j 0 ≡ (if in_row new j then d else get_or r₀ j 0))
        ⊎ (T (has (j / 16) (members_from 16 0 left)) × (get_or r j 0 ≡ get_or r₀ j 0))
        → Last j ⊎ (T (has (j / 16) (members_from 16 0 (left - 2 ^ b))) × (get_or r' j 0 ≡ get_or r₀ j 0))
    next j h (inl f) = inl (kept j h f)
    next j h (inr s) = at (eq_or (j / 16) b) (of_cons (j / 16) (0 + b) _ (subst (λ (l : List ℕ). T (has (j / 16) l)) low.first s.0))
      where
        at : (j / 16 ≡ b) ⊎ (j / 16 ≡ b → ⊥) → (j / 16 ≡ 0 + b) ⊎ T (has (j / 16) (members_from 16 0 (left - 2 ^ b)))
            → Last j ⊎ (T (has (j / 16) (members_from 16 0 (left - 2 ^ b))) × (get_or r' j 0 ≡ get_or r₀ j 0))
        at (inl q) t = inl (written j h q s.1)
        at (inr f) (inl q) = absurd (f (q ∙ zero-add b))
        at (inr f) (inr t) = inr (t, e j (omega (arith, m.same)) ∙ rw (ne_eqb (j / 16) b f) s.1)

    pub row_more : RowMarking new d r₀ r' (left - 2 ^ count_trailing_zeros 16 left)
    row_more = record { small = omega (arith, m.small); same = l ∙ m.same; done = λ j h. next j h (m.done j h) }
