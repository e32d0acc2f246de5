-- Rows of lanes: joined, and with another row taken out.
-- Assumes nothing.
use mathlib.Core.Path.{◌≡◌, refl, sym, ap, ◌∙◌, subst}
use mathlib.Core.Bool.{Bool, ◌&&◌, ◌||◌, or_comm}
use mathlib.Core.List.{List}
use mathlib.Core.Logic.{⊎_elim}
use Prim.Native.Nat.{ℕ, ◌+◌, ◌-◌, ◌*◌, ◌/◌, ◌%◌, ◌^◌, ◌≤◌, ◌<◌}
use native.Mathlib.Nat.{one-mul}
use native.Mathlib.Omega.{arith}
use borrow.Author.Tests.{ne_eqb}
use lib.Bits.{bit_and, bit_or}
use lib.Dec.{T, eqb}
use lib.ListN.{length, get_or, set, drop, drop_of_length-le}
use lib.Pow.{shl_exact}
use lib.Seq.{get_or-set_same, get_or-set_other}
use Rattle.model.specs.Basics.{any}
use Rattle.model.proofs.Loops.{below_next, drop_next}
use Rattle.model.proofs.Tests.{or_l, or_r, or_turned, eq_or}
use Rattle.base_nodeset.specs.NodeSet.{bit}
use Rattle.base_nodeset.proofs.Bits.{eqb_same, bit-bit_and, bit-bit_or, bit_not, bit_of_zero, bit_pow}
use Rattle.search_source_sets.specs.SourceSets.{in_row, reached, Covers, RowLeft}

-- ---- one source

module _ (row : List ℕ) (j : ℕ) (long : length row ≡ 16) (few : j < 256) where
  abbrev lane : ℕ
  lane = j % 16

  abbrev row' : List ℕ
  row' = set row lane (bit_or (get_or row lane 0) ((1 * 2 ^ (j / 16)) % 65536))

  single : (1 * 2 ^ (j / 16)) % 65536 ≡ 2 ^ (j / 16)
  single = shl_exact {a = 1} 1 (j / 16) 16 (omega arith) (omega arith) ∙ one-mul (2 ^ (j / 16))

  -- its bit is set in its lane
  pub source_put : (k : ℕ) → in_row row' k ≡ (eqb k j || in_row row k)
  unfolding in_row
  source_put k = ⊎_elim at off (eq_or (k % 16) lane)
    where
      at : k % 16 ≡ lane → bit (get_or row' (k % 16) 0) (k / 16) ≡ (eqb k j || bit (get_or row (k % 16) 0) (k / 16))
      at q =
          let same : eqb (k / 16) (j / 16) ≡ eqb k j =
          eqb_same (k / 16) (j / 16) k j (λ (z : k / 16 ≡ j / 16). omega arith) (λ (z : k ≡ j). ap (λ (x : ℕ). x / 16) z) in
          rw (q, get_or-set_same row lane (bit_or (get_or row lane 0) ((1 * 2 ^ (j / 16)) % 65536)) 0 (omega (arith, long)), bit-bit_or, single, bit_pow, same)
          (or_comm (bit (get_or row lane 0) (k / 16)) (eqb k j))

      off : (k % 16 ≡ lane → ⊥) → bit (get_or row' (k % 16) 0) (k / 16) ≡ (eqb k j || bit (get_or row (k % 16) 0) (k / 16))
      off q =
          rw (
            get_or-set_other row lane (k % 16) (bit_or (get_or row lane 0) ((1 * 2 ^ (j / 16)) % 65536)) 0 q,
            ne_eqb k j (λ (z : k ≡ j). q (ap (λ (x : ℕ). x % 16) z)),
          ) refl

-- ---- a row joined to a row, lane by lane

pub joined : (row f₀ f : List ℕ) → ((k : ℕ) → k < 16 → get_or f k 0 ≡ bit_or (get_or f₀ k 0) (get_or row k 0))
    → (j : ℕ) → in_row f j ≡ (in_row row j || in_row f₀ j)
unfolding in_row
joined row f₀ f done j =
    ap (λ (y : ℕ). bit y (j / 16)) (done (j % 16) (omega arith))
    ∙ bit-bit_or (get_or f₀ (j % 16) 0) (get_or row (j % 16) 0) (j / 16)
    ∙ or_comm (bit (get_or f₀ (j % 16) 0) (j / 16)) (bit (get_or row (j % 16) 0) (j / 16))

-- ---- the rows of a list's nodes, one after the other

pub record Gathering (list : List ℕ) (rows : List (List ℕ)) (f₀ f : List ℕ) (i : ℕ) : Type 0 where
  pub within : i ≤ length list
  pub says : (j : ℕ) → (any (λ x. reached rows x j) (drop i list) || in_row f j) ≡ (any (λ x. reached rows x j) list || in_row f₀ j)

module _ (list : List ℕ) (rows : List (List ℕ)) (f₀ : List ℕ) where
  pub gathering_none : Gathering list rows f₀ f₀ 0
  gathering_none = record { within = omega arith; says = λ j. refl }

  module _ (f : List ℕ) (i : ℕ) (h : Gathering list rows f₀ f i) where
    pub gathering_more : (f' : List ℕ) → i < length list
        → ((j : ℕ) → in_row f' j ≡ (reached rows (get_or list i 0) j || in_row f j)) → Gathering list rows f₀ f' (i + 1)
    unfolding any
    gathering_more f' l e = record {
      within = omega arith;
      says = λ j.
          let p : ℕ → Bool = λ x. reached rows x j in
          ap (λ (b : Bool). any p (drop (i + 1) list) || b) (e j)
          ∙ or_turned (any p (drop (i + 1) list)) (p (get_or list i 0)) (in_row f j)
          ∙ ap (λ (r : List ℕ). any p r || in_row f j) (sym (drop_next list i l))
          ∙ h.says j;
    }

    pub gathering_all : length list ≤ i → (j : ℕ) → in_row f j ≡ (any (λ x. reached rows x j) list || in_row f₀ j)
    unfolding any
    gathering_all l j =
        sym (ap (λ (r : List ℕ). any (λ x. reached rows x j) r || in_row f j) (drop_of_length-le list l)) ∙ h.says j

-- ---- a row taken out of a row

-- every bit of the first i lanes is among the bits found
pub record Found (lanes : List ℕ) (found i : ℕ) : Type 0 where
  pub cover : (k : ℕ) → k < i → (b : ℕ) → T (bit (get_or lanes k 0) b) → T (bit found b)

pub found_more : (lanes : List ℕ) (found i w : ℕ) → i < length lanes → Found lanes found i → Found (set lanes i w) (bit_or found w) (i + 1)
found_more lanes found i w l f = record {
  cover = below_next (λ (k : ℕ). (b : ℕ) → T (bit (get_or (set lanes i w) k 0) b) → T (bit (bit_or found w) b)) i
      (λ k q b t. rw (bit-bit_or found w b) (or_l (bit found b) (bit w b) (f.cover k q b (rw (get_or-set_other lanes i k w 0 (omega arith)) at t))))
      (λ b t. rw (bit-bit_or found w b) (or_r (bit found b) (bit w b) (rw (get_or-set_same lanes i w 0 l) at t)));
}

pub removed : (row s₀ s : List ℕ) (found i : ℕ) → 16 ≤ i → ((k : ℕ) → k < i → get_or row k 0 < 2 ^ 16)
    → ((k : ℕ) → k < i → get_or s k 0 ≡ bit_and (get_or s₀ k 0) ((2 ^ 16 - 1) - get_or row k 0)) → Found s found i
    → RowLeft row s₀ s found
unfolding in_row
removed row s₀ s found i past small done covered = record {
  new = λ j q.
      ap (λ (y : ℕ). bit y (j / 16)) (done (j % 16) (omega arith))
      ∙ bit-bit_and (get_or s₀ (j % 16) 0) ((2 ^ 16 - 1) - get_or row (j % 16) 0) (j / 16)
      ∙ ap (λ (b : Bool). bit (get_or s₀ (j % 16) 0) (j / 16) && b) (bit_not 16 (get_or row (j % 16) 0) (j / 16) (small (j % 16) (omega arith)) (omega arith));
  bits = λ j t. covered.cover (j % 16) (omega arith) (j / 16) t;
}

-- nothing found: nothing is new
pub covers_none : (s : List ℕ) (found : ℕ) → found ≡ 0 → Covers s found → (j : ℕ) → T (in_row s j) → ⊥
covers_none s found e c j t = subst T (ap (λ (y : ℕ). bit y (j / 16)) e ∙ bit_of_zero (j / 16)) (c j t)
