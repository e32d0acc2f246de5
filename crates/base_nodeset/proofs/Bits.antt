-- Bits of words: the operations bit by bit, a single bit; each proved by one induction on the number of bits.
-- Assumes nothing.
use mathlib.Core.Path.{◌≡◌, refl, sym, ap, ap₂, ◌∙◌, fun_ext}
use mathlib.Core.Logic.{⊎_elim}
use mathlib.Core.Bool.{Bool, true, false, not, ◌&&◌, ◌||◌, or_comm}
use mathlib.Core.List.{List}
use Prim.Native.Nat.{ℕ, zero, suc, ◌+◌, ◌-◌, ◌*◌, ◌/◌, ◌%◌, ◌^◌, ◌<◌}
use native.Mathlib.Nat.{mod-lt, div-one, one-mul, pow-suc, le_of_suc-le-suc, not-suc-le-zero, zero-lt-suc}
use native.Mathlib.Numerals.{one-add}
use native.Mathlib.Omega.{arith}
use borrow.Author.Tests.{eq-eqb, ne_eqb, eqb-true, eqb-false}
use lib.Bits.{bit_and, bit_or, and_shr, or_shr, and_mod, or_mod}
use lib.Dec.{eqb, eqb-suc-suc}
use lib.ListN.{get_or, set, length, replicate}
use lib.Pow.{shl_exact, shr-shr}
use lib.Seq.{get_or-set_same, get_or-set_other}
use Rattle.model.proofs.Entries.{get_d_same}
use Rattle.model.proofs.Tests.{eq_or}
use Rattle.base_nodeset.specs.NodeSet.{Nodes, bit, member, empty_set, inserted}

-- two tests agree where each passes when the other does
pub eqb_same : (a b c d : ℕ) → (a ≡ b → c ≡ d) → (c ≡ d → a ≡ b) → eqb a b ≡ eqb c d
eqb_same a b c d f g = go (eqb a b) refl
  where
    go : (t : Bool) → eqb a b ≡ t → t ≡ eqb c d
    go true e = sym (eq-eqb _ _ (f (eqb-true a b e)))
    go false e = sym (ne_eqb c d (λ h. eqb-false a b e (g h)))

-- ---- an operation on words is the operation on each bit: stated once over the operation

module _ (op : ℕ → ℕ → ℕ)
    (shr : (a b k : ℕ) → op a b / 2 ^ k ≡ op (a / 2 ^ k) (b / 2 ^ k))
    (low : (a b k : ℕ) → op a b % 2 ^ k ≡ op (a % 2 ^ k) (b % 2 ^ k))
    (f : Bool → Bool → Bool)
    (table : (x y : ℕ) → x < 2 → y < 2 → eqb (op x y) 1 ≡ f (eqb x 1) (eqb y 1)) where
  bit_op : (a b k : ℕ) → bit (op a b) k ≡ f (bit a k) (bit b k)
  unfolding bit
  bit_op a b k =
      ap (λ (x : ℕ). eqb (x % 2) 1) (shr a b k)
      ∙ ap (λ (x : ℕ). eqb x 1) (low (a / 2 ^ k) (b / 2 ^ k) 1)
      ∙ table (a / 2 ^ k % 2) (b / 2 ^ k % 2) (mod-lt _ (zero-lt-suc _)) (mod-lt _ (zero-lt-suc _))

-- a rule for two bits is seen at 0 and 1
two : (P : ℕ → ℕ → Type 0) → P 0 0 → P 0 1 → P 1 0 → P 1 1 → (x y : ℕ) → x < 2 → y < 2 → P x y
two P a b c d zero zero h k = a
two P a b c d zero (suc zero) h k = b
two P a b c d (suc zero) zero h k = c
two P a b c d (suc zero) (suc zero) h k = d
two P a b c d zero (suc (suc y)) h k = absurd (not-suc-le-zero (le_of_suc-le-suc (le_of_suc-le-suc k)))
two P a b c d (suc zero) (suc (suc y)) h k = absurd (not-suc-le-zero (le_of_suc-le-suc (le_of_suc-le-suc k)))
two P a b c d (suc (suc x)) y h k = absurd (not-suc-le-zero (le_of_suc-le-suc (le_of_suc-le-suc h)))

pub bit-bit_and : (a b k : ℕ) → bit (bit_and a b) k ≡ (bit a k && bit b k)
bit-bit_and = bit_op _ and_shr and_mod ◌&&◌ (two _ refl refl refl refl)

pub bit-bit_or : (a b k : ℕ) → bit (bit_or a b) k ≡ (bit a k || bit b k)
bit-bit_or = bit_op _ or_shr or_mod ◌||◌ (two _ refl refl refl refl)

-- ---- bits, lowest first

pub bit_zero : (w : ℕ) → bit w 0 ≡ eqb (w % 2) 1
unfolding bit
bit_zero w = ap (λ (x : ℕ). eqb (x % 2) 1) (div-one w)

pub bit_suc : (w k : ℕ) → bit w (suc k) ≡ bit (w / 2) k
unfolding bit
bit_suc w k = ap (λ (x : ℕ). eqb (x % 2) 1) (ap (λ (x : ℕ). w / 2 ^ x) (sym (one-add _)) ∙ sym (shr-shr _ _ _))

pub bit_of_zero : (k : ℕ) → bit 0 k ≡ false
bit_of_zero zero = bit_zero _
bit_of_zero (suc k) = bit_suc _ _ ∙ bit_of_zero k

-- the word 2 ^ j has bit j alone
pub bit_pow : (j k : ℕ) → bit (2 ^ j) k ≡ eqb k j
bit_pow zero zero = bit_zero _
bit_pow zero (suc k) = bit_suc _ _ ∙ bit_of_zero _ ∙ sym (ne_eqb (suc k) 0 (omega arith))
bit_pow (suc j) zero =
    bit_zero _ ∙ ne_eqb (2 ^ suc j % 2) 1 (omega (arith, pow-suc 2 j)) ∙ sym (ne_eqb 0 (suc j) (omega arith))
bit_pow (suc j) (suc k) =
    let half : 2 ^ suc j / 2 ≡ 2 ^ j = omega (arith, pow-suc 2 j) in
    bit_suc _ _ ∙ ap (λ (x : ℕ). bit x k) half ∙ bit_pow j k ∙ sym (eqb-suc-suc k j)

-- the complement of a word of n bits
pub bit_not : (n w k : ℕ) → w < 2 ^ n → k < n → bit ((2 ^ n - 1) - w) k ≡ not (bit w k)
bit_not zero w k h l = absurd (not-suc-le-zero l)
bit_not (suc n) w zero h l =
    let e : ((2 ^ suc n - 1) - w) % 2 ≡ 1 - w % 2 = omega (arith, pow-suc 2 n) in
    bit_zero _ ∙ ap (λ (x : ℕ). eqb x 1) e ∙ flip (w % 2) (mod-lt _ (zero-lt-suc _)) ∙ ap not (sym (bit_zero _))
  where
    flip : (d : ℕ) → d < 2 → eqb (1 - d) 1 ≡ not (eqb d 1)
    flip zero q = refl
    flip (suc zero) q = refl
    flip (suc (suc d)) q = absurd (not-suc-le-zero (le_of_suc-le-suc (le_of_suc-le-suc q)))
bit_not (suc n) w (suc k) h l =
    let e : ((2 ^ suc n - 1) - w) / 2 ≡ (2 ^ n - 1) - w / 2 = omega (arith, pow-suc 2 n) in
    bit_suc _ _ ∙ ap (λ (x : ℕ). bit x k) e ∙ bit_not n (w / 2) k (omega (arith, pow-suc 2 n)) (omega arith)
    ∙ ap not (sym (bit_suc _ _))

-- ---- words

-- bit k of word i is node 64 * i + k
pub word_bit : (ws : List ℕ) (i k : ℕ) → k < 64 → member ws (64 * i + k) ≡ bit (get_or ws i 0) k
unfolding member
word_bit ws i k h =
    let q : (64 * i + k) / 64 ≡ i = omega arith in
    let r : (64 * i + k) % 64 ≡ k = omega arith in
    ap₂ (λ (a b : ℕ). bit (get_or ws a 0) b) q r

-- words of zeros are the empty set
pub empty_words : (n : ℕ) → member (replicate n 0) ≡ empty_set
unfolding member empty_set
empty_words n = fun_ext (λ v. ap (λ (w : ℕ). bit w (v % 64)) (get_d_same n (v / 64) 0) ∙ bit_of_zero _)

-- a single bit, as code makes it
pub shifted : (k : ℕ) → k < 64 → (1 * 2 ^ k) % 2 ^ 64 ≡ 2 ^ k
shifted k h = shl_exact {a = 1} 1 k 64 (omega arith) (omega arith) ∙ one-mul (2 ^ k)

-- ---- one word changed

module _ (ws : List ℕ) (i w : ℕ) where
  pub word_changed : i < length ws → (x : ℕ) → x / 64 ≡ i → member (set ws i w) x ≡ bit w (x % 64)
  unfolding member
  word_changed h x e = rw (e, get_or-set_same ws i w 0 h)

  pub word_kept : (x : ℕ) → (x / 64 ≡ i → ⊥) → member (set ws i w) x ≡ member ws x
  unfolding member
  word_kept x d = rw (get_or-set_other ws i (x / 64) w 0 d)

  -- the words are the set p if w says which of its nodes are in p, and the other words say it already
  pub set_word : i < length ws → {p : Nodes} → ((x : ℕ) → x / 64 ≡ i → bit w (x % 64) ≡ p x)
      → ((x : ℕ) → (x / 64 ≡ i → ⊥) → member ws x ≡ p x) → member (set ws i w) ≡ p
  set_word h here others =
      fun_ext (λ x. ⊎_elim (λ e. word_changed h x e ∙ here _ e) (λ d. word_kept x d ∙ others x d) (eq_or _ _))

-- node v's bit is that of no other node of its word
own_bit : (x v : ℕ) → x / 64 ≡ v / 64 → bit (1 * 2 ^ (v % 64) % 2 ^ 64) (x % 64) ≡ eqb x v
own_bit x v e =
    rw (shifted (v % 64) (omega arith), bit_pow (v % 64) (x % 64))
    (eqb_same _ _ _ _ (λ (q : x % 64 ≡ v % 64). omega arith) (λ (q : x ≡ v). ap (λ (y : ℕ). y % 64) q))

-- a node of another word is another node
other_word : (x v : ℕ) → (x / 64 ≡ v / 64 → ⊥) → eqb x v ≡ false
other_word x v d = ne_eqb _ _ (λ (q : x ≡ v). d (ap (λ (y : ℕ). y / 64) q))

-- the word of node v with the node's bit set
pub set_with : (ws : List ℕ) (v : ℕ) → v / 64 < length ws
    → member (set ws (v / 64) (bit_or (get_or ws (v / 64) 0) (1 * 2 ^ (v % 64) % 2 ^ 64))) ≡ inserted (member ws) v
unfolding member inserted
set_with ws v h =
    set_word ws (v / 64) (bit_or (get_or ws (v / 64) 0) (1 * 2 ^ (v % 64) % 2 ^ 64)) h
    (λ x e. rw (e, bit-bit_or, own_bit x v e) (or_comm (bit (get_or ws (v / 64) 0) (x % 64)) (eqb x v)))
    (λ x d. rw (other_word x v d))
