-- The set bits of a word: by trailing zeros, by a count of ones, and as what a test keeps. Each is proved by one induction on the number of bits.
-- Assumes nothing.
use mathlib.Core.Path.{◌≡◌, refl, sym, ap, ap₂, ◌∙◌}
use mathlib.Core.Logic.{◌⊎◌, inl, inr, ⊎_elim}
use mathlib.Core.Bool.{Bool}
use mathlib.Core.List.{List, [], ◌∷◌, ◌++◌}
use Prim.Native.Nat.{ℕ, zero, suc, ◌+◌, ◌-◌, ◌*◌, ◌/◌, ◌%◌, ◌^◌, ◌≤◌, ◌<◌, min}
use native.Mathlib.Nat.{pow-suc, add-zero, zero-add, add-suc, suc-add}
use native.Mathlib.Omega.{arith}
use lib.Arith.{lt-one}
use lib.Bits.{bit_and, and_step, and_self}
use lib.Count.{ones, ones_step, count_trailing_zeros}
use lib.Dec.{eqb}
use lib.ListN.{length}
use Rattle.model.specs.Basics.{from, up_to, keep}
use Rattle.model.proofs.Lists.{keep_append, from_add}
use Rattle.base_nodeset.specs.NodeSet.{bit, members_from}
use Rattle.base_nodeset.proofs.Bits.{bit_zero, bit_suc}

-- by the lowest bit
odd_or : (w : ℕ) → (w % 2 ≡ 1) ⊎ (w % 2 ≡ 0)
odd_or w = go (w % 2) refl
  where
    go : (r : ℕ) → w % 2 ≡ r → (w % 2 ≡ 1) ⊎ (w % 2 ≡ 0)
    go zero e = inr e
    go (suc zero) e = inl e
    go (suc (suc r)) e = absurd (omega arith)

trailing_odd : (k w : ℕ) → w % 2 ≡ 1 → count_trailing_zeros (suc k) w ≡ 0
unfolding count_trailing_zeros
trailing_odd k w h = rw h

trailing_even : (k w : ℕ) → w % 2 ≡ 0 → count_trailing_zeros (suc k) w ≡ suc (count_trailing_zeros k (w / 2))
unfolding count_trailing_zeros
trailing_even k w h = rw h

bits_odd : (k u w : ℕ) → w % 2 ≡ 1 → members_from (suc k) u w ≡ u ∷ members_from k (suc u) (w / 2)
unfolding members_from
bits_odd k u w h = rw h

bits_even : (k u w : ℕ) → w % 2 ≡ 0 → members_from (suc k) u w ≡ members_from k (suc u) (w / 2)
unfolding members_from
bits_even k u w h = rw h

pub bits_none : (k u : ℕ) → members_from k u 0 ≡ []
unfolding members_from
bits_none zero u = refl
bits_none (suc k) u = bits_none k (suc u)

-- the lowest set bit is in the word
pub record Lowest (k u w : ℕ) : Type 0 where
  pub below : count_trailing_zeros k w < k
  pub holds : 2 ^ count_trailing_zeros k w ≤ w
  pub first : members_from k u w ≡ (u + count_trailing_zeros k w) ∷ members_from k u (w - 2 ^ count_trailing_zeros k w)

-- an odd word: the lowest bit is bit 0
lowest_odd : {k u w : ℕ} → 0 < w → w % 2 ≡ 1 → Lowest (suc k) u w
lowest_odd {k} {u} {w} p o =
    let t : count_trailing_zeros (suc k) w ≡ 0 = trailing_odd _ _ o in
    let e : (w - 1) % 2 ≡ 0 = omega arith in
    let half : (w - 1) / 2 ≡ w / 2 = omega arith in
    let place : u + 0 ≡ u = omega arith in
    record { below = omega arith; holds = rw t p; first = rw (t, place, bits_even k u (w - 1) e, half) (bits_odd k u w o) }

-- an even word: it is that of the word halved, one place up
lowest_even : {k u w : ℕ} → w % 2 ≡ 0 → Lowest k (suc u) (w / 2) → Lowest (suc k) u w
lowest_even {k} {u} {w} o l =
    let z = count_trailing_zeros k (w / 2) in
    let t : count_trailing_zeros (suc k) w ≡ suc z = trailing_even _ _ o in
    let twice : 2 ^ suc z ≡ 2 ^ z * 2 = pow-suc _ _ in
    let e : (w - 2 ^ suc z) % 2 ≡ 0 = omega (arith, l.holds) in
    let half : (w - 2 ^ suc z) / 2 ≡ w / 2 - 2 ^ z = omega (arith, l.holds) in
    let place : u + suc z ≡ suc u + z = omega arith in
    record {
      below = omega (arith, l.below);
      holds = rw t (omega (arith, l.holds));
      first = rw (t, place, bits_even k u (w - 2 ^ suc z) e, half) (bits_even k u w o ∙ l.first);
    }

pub lowest : (k u w : ℕ) → 0 < w → w < 2 ^ k → Lowest k u w
lowest zero u w p h = absurd (omega arith)
lowest (suc k) u w p h =
    let twice : 2 ^ suc k ≡ 2 ^ k * 2 = pow-suc _ _ in
    ⊎_elim (lowest_odd p) (λ o. lowest_even o (lowest k (suc u) (w / 2) (omega arith) (omega arith))) (odd_or _)

-- a word and the number before it have all set bits in common but the lowest
cleared_odd : (k w : ℕ) → w % 2 ≡ 1 → bit_and w (w - 1) ≡ w - 2 ^ count_trailing_zeros (suc k) w
cleared_odd k w o =
    let half : (w - 1) / 2 ≡ w / 2 = omega arith in
    let least : min (w % 2) ((w - 1) % 2) ≡ 0 = omega arith in
    and_step w (w - 1)
    ∙ ap₂ (λ (x y : ℕ). bit_and (w / 2) x * 2 + y) half least
    ∙ ap (λ (x : ℕ). x * 2 + 0) (and_self (w / 2))
    ∙ rw (trailing_odd k w o) (omega arith)

cleared_even : (k w : ℕ) → 0 < w → w % 2 ≡ 0 → bit_and (w / 2) (w / 2 - 1) ≡ w / 2 - 2 ^ count_trailing_zeros k (w / 2)
    → bit_and w (w - 1) ≡ w - 2 ^ count_trailing_zeros (suc k) w
cleared_even k w p o h =
    let half : (w - 1) / 2 ≡ w / 2 - 1 = omega arith in
    let least : min (w % 2) ((w - 1) % 2) ≡ 0 = omega arith in
    let twice : 2 ^ suc (count_trailing_zeros k (w / 2)) ≡ 2 ^ count_trailing_zeros k (w / 2) * 2 = pow-suc _ _ in
    and_step w (w - 1)
    ∙ ap₂ (λ (x y : ℕ). bit_and (w / 2) x * 2 + y) half least
    ∙ ap (λ (x : ℕ). x * 2 + 0) h
    ∙ rw (trailing_even k w o) (omega (arith, twice))

pub lowest_cleared : (k w : ℕ) → 0 < w → w < 2 ^ k → bit_and w (w - 1) ≡ w - 2 ^ count_trailing_zeros k w
lowest_cleared zero w p h = absurd (omega arith)
lowest_cleared (suc k) w p h =
    let twice : 2 ^ suc k ≡ 2 ^ k * 2 = pow-suc _ _ in
    ⊎_elim (cleared_odd k w) (λ o. cleared_even k w p o (lowest_cleared k (w / 2) (omega arith) (omega arith))) (odd_or _)

-- the ones of a word of k bits are as many as its set bits
pub ones_members : (k u w : ℕ) → w < 2 ^ k → length (members_from k u w) ≡ ones w
unfolding members_from ones
ones_members zero u w h = sym (ap ones (lt-one h))
ones_members (suc k) u w h =
    let rest = ones_members k (suc u) (w / 2) (omega (arith, pow-suc 2 k)) in
    ⊎_elim
    (λ o. ap length (bits_odd k u w o) ∙ omega (arith, rest, ones_step w))
    (λ o. ap length (bits_even k u w o) ∙ omega (arith, rest, ones_step w))
    (odd_or _)

-- ---- a word of a row of words: if bit i of w is the test of u + i, the test keeps those numbers whose bits in w are set

members_keep : (k u w : ℕ) (f : ℕ → Bool) → ((i : ℕ) → i < k → f (u + i) ≡ bit w i) → keep f (from u k) ≡ members_from k u w
unfolding from keep members_from
members_keep zero u w f h = refl
members_keep (suc k) u w f h =
    let first : f u ≡ eqb (w % 2) 1 = ap f (sym (add-zero _)) ∙ h 0 (omega arith) ∙ bit_zero _ in
    let rest = members_keep k (suc u) (w / 2) f (λ i l. ap f (suc-add _ _ ∙ sym (add-suc _ _)) ∙ h (suc i) (omega arith) ∙ bit_suc _ _) in
    rw (first, rest)

pub row_word : {k : ℕ} (u w : ℕ) (f : ℕ → Bool) → ((i : ℕ) → i < k → f (u + i) ≡ bit w i)
    → keep f (up_to (u + k)) ≡ keep f (up_to u) ++ members_from k u w
unfolding up_to
row_word {k} u w f h =
    ap (keep f) (from_add _ _ _ ∙ ap (λ (x : ℕ). from 0 u ++ from x k) (zero-add _))
    ∙ keep_append _ _ _
    ∙ ap (λ (l : List ℕ). keep f (from 0 u) ++ l) (members_keep _ _ _ _ h)
