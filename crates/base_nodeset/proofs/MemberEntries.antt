-- The entries of a set's members are written: bit by bit, and word by word.
-- Assumes nothing.
use mathlib.Core.Path.{◌≡◌, refl, sym, ◌∙◌}
use mathlib.Core.Logic.{⊎_elim}
use mathlib.Core.Bool.{Bool, true, false, ◌||◌}
use mathlib.Core.List.{List, [], ◌∷◌, ◌++◌}
use Prim.Native.Nat.{ℕ, ◌+◌, ◌-◌, ◌*◌, ◌^◌, ◌≤◌, ◌<◌}
use native.Mathlib.Omega.{arith}
use borrow.Author.Tests.{eq-eqb, ne_eqb}
use lib.Count.{count_trailing_zeros}
use lib.Dec.{T}
use lib.ListN.{length, get_or, set, length-set}
use lib.Seq.{get_or-set_same, get_or-set_other}
use Rattle.model.specs.Basics.{from, up_to, has, keep}
use Rattle.std.specs.Prelude.{if◌then◌else◌}
use Rattle.model.proofs.Tests.{eq_or, lt_or, or_l, or_r, or_e, same_test}
use Rattle.model.proofs.Lists.{has_head, has_tail, has_append, has_later, of_append, has_keep, of_keep, has_up_to}
use Rattle.base_nodeset.specs.NodeSet.{member, members_from}
use Rattle.base_nodeset.proofs.Bits.{word_bit}
use Rattle.base_nodeset.proofs.Members.{bits_none, Lowest, lowest}
use Rattle.base_nodeset.proofs.Words.{next_word, member_past}

-- the entry of x, where those of the nodes ns are to become the value
abbrev entry : (value : ℕ) (ns l : List ℕ) (x : ℕ) → ℕ
entry value ns l x = if has x ns then value else get_or l x 0

-- the entry of a node is written, and those of others are still to be
entry_one : (value : ℕ) (ns l : List ℕ) (v : ℕ) → v < length l → (x : ℕ) → entry value ns (set l v value) x ≡ entry value (v ∷ ns) l x
unfolding has
entry_one value ns l v h x = ⊎_elim same other (eq_or x v)
  where
    either : (b : Bool) → {y : ℕ} → y ≡ value → (if b then value else y) ≡ value
    either true e = refl
    either false e = e

    same : x ≡ v → entry value ns (set l v value) x ≡ entry value (v ∷ ns) l x
    same e = either (has x ns) (rw e (get_or-set_same l v value 0 h)) ∙ sym (rw (eq-eqb x v e) refl)

    other : (x ≡ v → ⊥) → entry value ns (set l v value) x ≡ entry value (v ∷ ns) l x
    other d = rw (ne_eqb x v d, get_or-set_other l v x value 0 d) refl

-- ---- the bits of a word: those whose entries are written, and those that are left

pub record WordWriting (value base word : ℕ) (l₀ l : List ℕ) (left : ℕ) : Type 0 where
  pub small : left < 2 ^ 64
  pub same : length l ≡ length l₀
  pub inside : (v : ℕ) → T (has v (members_from 64 base left)) → v < length l₀
  pub says : (x : ℕ) → entry value (members_from 64 base left) l x ≡ entry value (members_from 64 base word) l₀ x

module _ {value base word : ℕ} {l₀ l : List ℕ} {left : ℕ} (w : WordWriting value base word l₀ l left) where
  pub word_all : left ≡ 0 → (x : ℕ) → get_or l x 0 ≡ entry value (members_from 64 base word) l₀ x
  unfolding has
  word_all e x = let none : members_from 64 base left ≡ [] = rw e (bits_none _ _) in rw none at (w.says x)

  -- the lowest bit that is left
  module _ (p : 0 < left) where
    pub low : Lowest 64 base left
    low = lowest _ _ _ p w.small

    pub low_inside : base + count_trailing_zeros 64 left < length l
    low_inside = rw w.same (w.inside (base + count_trailing_zeros 64 left) (rw low.first (has_head _ _)))

    pub word_more : WordWriting value base word l₀ (set l (base + count_trailing_zeros 64 left) value) (left - 2 ^ count_trailing_zeros 64 left)
    word_more = record {
      small = omega (arith, w.small);
      same = length-set l (base + count_trailing_zeros 64 left) value ∙ w.same;
      inside = λ v t. w.inside v (rw low.first (has_tail _ _ _ t));
      says = λ x. entry_one value (members_from 64 base (left - 2 ^ count_trailing_zeros 64 left)) l (base + count_trailing_zeros 64 left) low_inside x
          ∙ (rw low.first at (w.says x));
    }

-- ---- the words of a set

-- the members in the first i words
abbrev below : List ℕ → ℕ → List ℕ
below ws i = keep (member ws) (up_to (64 * i))

pub record SetWriting (value : ℕ) (ws l₀ l : List ℕ) (i : ℕ) : Type 0 where
  pub within : i ≤ length ws
  pub same : length l ≡ length l₀
  pub says : (x : ℕ) → get_or l x 0 ≡ entry value (below ws i) l₀ x

pub set_none : {value : ℕ} {ws l₀ : List ℕ} → SetWriting value ws l₀ l₀ 0
unfolding up_to from keep has
set_none = record { within = omega arith; same = refl; says = λ x. refl }

module _ {value : ℕ} {ws l₀ l : List ℕ} {i : ℕ} (w : SetWriting value ws l₀ l i) where
  abbrev new : List ℕ
  new = members_from 64 (64 * i) (get_or ws i 0)

  more : below ws (i + 1) ≡ below ws i ++ new
  more = next_word _ _ _ (λ k q. word_bit _ _ _ q)

  pub new_inside : ((v : ℕ) → T (member ws v) → v < length l₀) → (v : ℕ) → T (has v new) → v < length l
  new_inside h v t =
      let here : T (has v (below ws (i + 1))) = rw more (has_later v (below ws i) new t) in
      rw w.same (h v (of_keep _ _ _ here).1)

  pub set_more : i < length ws → {l' : List ℕ} → length l' ≡ length l → ((x : ℕ) → get_or l' x 0 ≡ entry value new l x)
      → SetWriting value ws l₀ l' (i + 1)
  set_more h k e = record {
    within = omega arith;
    same = k ∙ w.same;
    says = λ x. e x ∙ rw (w.says x, more, joined x) (twice (has x new) (has x (below ws i)) (get_or l₀ x 0));
  }
    where
      joined : (x : ℕ) → has x (below ws i ++ new) ≡ (has x new || has x (below ws i))
      joined x = same_test _ _
          (λ t. ⊎_elim (λ a. or_r (has x new) (has x (below ws i)) a) (λ b. or_l (has x new) (has x (below ws i)) b) (of_append x (below ws i) new t))
          (λ t. ⊎_elim (λ a. has_later x (below ws i) new a) (λ b. has_append x (below ws i) new b) (or_e (has x new) (has x (below ws i)) t))

      twice : (a b : Bool) (y : ℕ) → (if a then value else if b then value else y) ≡ (if a || b then value else y)
      twice true b y = refl
      twice false b y = refl

  pub set_all : length ws ≤ i → (x : ℕ) → get_or l x 0 ≡ (if member ws x then value else get_or l₀ x 0)
  set_all h x = w.says x ∙ rw (same_test (has x (below ws i)) (member ws x) (λ t. (of_keep _ _ _ t).1) in_below) refl
    where
      in_below : T (member ws x) → T (has x (below ws i))
      in_below t = ⊎_elim
          (λ b. has_keep (member ws) (up_to (64 * i)) x (has_up_to (64 * i) x b) t)
          (λ b. absurd (rw (member_past ws x (omega arith)) at t))
          (lt_or x (64 * i))
