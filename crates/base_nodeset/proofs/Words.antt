-- Loops over the words of sets: counting, removing, finding the smallest member, filling.
-- Assumes nothing.
use mathlib.Core.Path.{◌≡◌, refl, sym, ap, ◌∙◌, fun_ext}
use mathlib.Core.Logic.{⊎_elim}
use mathlib.Core.Bool.{Bool, true, false}
use mathlib.Core.List.{List, [], ◌∷◌, ◌++◌}
use Prim.Native.Nat.{ℕ, zero, suc, ◌+◌, ◌-◌, ◌*◌, ◌/◌, ◌%◌, ◌^◌, ◌≤◌, ◌<◌}
use native.Mathlib.Nat.{pow-suc}
use native.Mathlib.Numerals.{add-one}
use native.Mathlib.Omega.{arith}
use borrow.Author.Fill.{fill_more}
use borrow.Author.Tests.{lt-ltb, le-ltb, eq-eqb}
use lib.Bits.{bit_and}
use lib.Count.{ones, count_trailing_zeros}
use lib.Dec.{T, ltb}
use lib.ListN.{length, get_or, set, take, drop, length-set, length-append, replicate, get_or-eq_default}
use lib.Pow.{pow_pos}
use lib.Seq.{get_or-set_other, take-length}
use Rattle.model.specs.Basics.{from, up_to, keep, first_of}
use Rattle.std.specs.Prelude.{if◌then◌else◌, cond, not, ◌==◌, Some, None}
use Rattle.std.specs.List.{sum_by, find, position, position_or_len}
use Rattle.std.proofs.lemmas.Bool.Decides.{nat_tests}
use Rattle.std.proofs.lemmas.List.Quantifiers.{position-Some}
use Rattle.std.proofs.lemmas.List.Sums.{fails_before_first, sum_by_more}
use Rattle.model.proofs.Tests.{ltb_same, lt_or, eq_or}
use Rattle.model.proofs.Lists.{First, found, nothing, first_below, keep_append, keep_length, length_up_to, up_to_add}
use Rattle.base_nodeset.specs.NodeSet.{Nodes, bit, member, empty_set, intersection, difference, members_from}
use Rattle.base_nodeset.proofs.Bits.{bit-bit_and, bit_not, bit_zero, bit_suc, bit_of_zero, shifted}
use Rattle.base_nodeset.proofs.Bits.{word_bit, empty_words, word_changed, word_kept, set_word}
use Rattle.base_nodeset.proofs.Members.{Lowest, lowest, bits_none, ones_members, row_word}

-- the members in one word more
pub next_word : (f : Nodes) (i w : ℕ) → ((k : ℕ) → k < 64 → f (64 * i + k) ≡ bit w k)
    → keep f (up_to (64 * (i + 1))) ≡ keep f (up_to (64 * i)) ++ members_from 64 (64 * i) w
next_word f i w h =
    let e : 64 * (i + 1) ≡ 64 * i + 64 = omega arith in
    ap (λ (n : ℕ). keep f (up_to n)) e ∙ row_word _ _ _ h

-- no node past the words is in their set
pub member_past : (ws : List ℕ) (x : ℕ) → length ws ≤ x / 64 → member ws x ≡ false
unfolding member
member_past ws x h = rw (get_or-eq_default ws 0 h, bit_of_zero)

-- ---- the size of a set

module _ (ws : List ℕ) (fits : (k : ℕ) → get_or ws k 0 < 2 ^ 64) where
  -- the ones of the first words are their members
  ones_so_far : (i : ℕ) → i ≤ length ws → sum_by ones (take i ws) ≡ length (keep (member ws) (up_to (64 * i)))
  unfolding up_to from keep
  ones_so_far zero h = refl
  ones_so_far (suc i) h =
      let next = next_word (member ws) i (get_or ws i 0) (λ k q. word_bit ws i k q) in
      rw (← add-one i, sum_by_more ones ws i 0 (omega arith), next, length-append, ones_members 64 (64 * i) (get_or ws i 0) (fits i))
      (ap (λ (k : ℕ). k + ones (get_or ws i 0)) (ones_so_far i (omega arith)))

  pub total_is : sum_by ones ws ≡ length (keep (member ws) (up_to (64 * length ws)))
  total_is = rw take-length at (ones_so_far (length ws) (omega arith))

  pub total_few : sum_by ones ws ≤ 64 * length ws
  total_few = omega (arith, total_is, keep_length (member ws) (up_to (64 * length ws)), length_up_to (64 * length ws))

-- ---- sets that are written word by word

-- the first i of n words say which of their nodes are in p
pub record Made (p : Nodes) (n : ℕ) (ws : List ℕ) (i : ℕ) : Type 0 where
  pub within : i ≤ n
  pub same : length ws ≡ n
  pub done : (x : ℕ) → x / 64 < i → member ws x ≡ p x

pub made_none : {p : Nodes} {n : ℕ} {ws : List ℕ} → length ws ≡ n → Made p n ws 0
made_none e = record { within = omega arith; same = e; done = λ x h. absurd (omega arith) }

module _ {p : Nodes} {n : ℕ} {ws : List ℕ} {i : ℕ} (m : Made p n ws i) where
  made_more : i < n → (w : ℕ) → ((x : ℕ) → x / 64 ≡ i → bit w (x % 64) ≡ p x) → Made p n (set ws i w) (i + 1)
  made_more h w here = record {
    within = omega arith;
    same = length-set ws i w ∙ m.same;
    done = λ x l. ⊎_elim
        (λ e. word_changed ws i w (omega (arith, m.same)) x e ∙ here _ e)
        (λ d. word_kept ws i w x d ∙ m.done x (omega arith))
        (eq_or _ _);
  }

  made_all : n ≤ i → ((x : ℕ) → n ≤ x / 64 → p x ≡ false) → member ws ≡ p
  made_all h past =
      fun_ext (λ x. ⊎_elim (m.done x) (λ l. member_past _ _ (omega (arith, m.same)) ∙ sym (past x (omega arith))) (lt_or _ _))

-- the intersection of two sets
both_word : (a b : List ℕ) {i : ℕ} (x : ℕ) → x / 64 ≡ i → bit (bit_and (get_or a i 0) (get_or b i 0)) (x % 64) ≡ intersection (member a) (member b) x
unfolding member intersection
both_word a b x e = rw (e, bit-bit_and)

module _ (a b : List ℕ) {into : List ℕ} {i : ℕ} (m : Made (intersection (member a) (member b)) (length a) into i) where
  pub shared_more : i < length a
      → Made (intersection (member a) (member b)) (length a) (set into i (bit_and (get_or a i 0) (get_or b i 0))) (i + 1)
  shared_more h = made_more m h _ (both_word _ _)

  pub shared_all : length a ≤ i → member into ≡ intersection (member a) (member b)
  unfolding intersection
  shared_all h = made_all m h (λ x l. rw (member_past a x l))

-- the difference of two sets: word i and those after it are as they were
pub record Removed (b a₀ a : List ℕ) (i : ℕ) : Type 0 where
  pub made : Made (difference (member a₀) (member b)) (length a₀) a i
  pub rest : (j : ℕ) → i ≤ j → get_or a j 0 ≡ get_or a₀ j 0

pub removed_none : {b a₀ : List ℕ} → Removed b a₀ a₀ 0
removed_none = record { made = made_none refl; rest = λ j h. refl }

module _ {b a₀ a : List ℕ} {i : ℕ} (r : Removed b a₀ a i) where
  pub removed_more : i < length a → get_or b i 0 < 2 ^ 64 → Removed b a₀ (set a i (bit_and (get_or a i 0) ((2 ^ 64 - 1) - get_or b i 0))) (i + 1)
  unfolding member difference
  removed_more h l =
      let w = bit_and (get_or a i 0) ((2 ^ 64 - 1) - get_or b i 0) in
      record {
        made = made_more r.made (omega (arith, r.made.same)) w
            (λ x e. rw (e, ← r.rest i (omega arith), bit-bit_and, bit_not 64 (get_or b i 0) (x % 64) l (omega arith)));
        rest = λ j q. get_or-set_other a i j w 0 (omega arith) ∙ r.rest j (omega arith);
      }

  pub removed_all : length a ≤ i → member a ≡ difference (member a₀) (member b)
  unfolding difference
  removed_all h = made_all r.made (omega (arith, r.made.same)) (λ x l. rw (member_past a₀ x l))

-- ---- the smallest member

-- the first of a list that passes a test heads what the test keeps
find_none : (p : ℕ → Bool) (l : List ℕ) → keep p l ≡ [] → find p l ≡ None
unfolding keep
find_none p [] e = refl
find_none p (x ∷ l) e = at (p x) (find_none p l) e
  where
    at : (b : Bool) → (keep p l ≡ [] → find p l ≡ None) → (if b then x ∷ keep p l else keep p l) ≡ [] → cond b (Some x) (find p l) ≡ None
    at true h e = cc
    at false h e = h e

find_some : (p : ℕ → Bool) (v : ℕ) (k l : List ℕ) → keep p l ≡ v ∷ k → find p l ≡ Some v
unfolding keep
find_some p v k [] e = cc
find_some p v k (x ∷ l) e = at (p x) (find_some p v k l) e
  where
    at : (b : Bool) → (keep p l ≡ v ∷ k → find p l ≡ Some v) → (if b then x ∷ keep p l else keep p l) ≡ v ∷ k → cond b (Some x) (find p l) ≡ Some v
    at true h e = cc
    at false h e = h e

-- no member in the first i words
pub record Clear (ws : List ℕ) (i : ℕ) : Type 0 where
  pub within : i ≤ length ws
  pub none : keep (member ws) (up_to (64 * i)) ≡ []

pub clear_none : {ws : List ℕ} → Clear ws 0
unfolding up_to from keep
clear_none = record { within = omega arith; none = refl }

module _ {ws : List ℕ} {i : ℕ} (c : Clear ws i) where
  here : keep (member ws) (up_to (64 * (i + 1))) ≡ members_from 64 (64 * i) (get_or ws i 0)
  here =
      next_word _ _ _ (λ k q. word_bit _ _ _ q)
      ∙ ap (λ (l : List ℕ). l ++ members_from 64 (64 * i) (get_or ws i 0)) c.none

  pub clear_more : i < length ws → get_or ws i 0 ≡ 0 → Clear ws (i + 1)
  clear_more h z = record { within = omega arith; none = here ∙ ap (members_from 64 (64 * i)) z ∙ bits_none _ _ }

  pub clear_all : length ws ≤ i → find (member ws) (up_to (64 * length ws)) ≡ None
  clear_all h =
      let e : i ≡ length ws = omega (arith, c.within) in
      find_none _ _ (rw e at c.none)

  -- the trailing zeros of the first word that is not 0 name the smallest member
  module _ (h : i < length ws) (p : get_or ws i 0 ≡ 0 → ⊥) (l : get_or ws i 0 < 2 ^ 64) where
    low : Lowest 64 (64 * i) (get_or ws i 0)
    low = lowest _ _ _ (omega arith) l

    pub clear_below : count_trailing_zeros 64 (get_or ws i 0) < 64
    clear_below = low.below

    pub clear_first : find (member ws) (up_to (64 * length ws)) ≡ Some (64 * i + count_trailing_zeros 64 (get_or ws i 0))
    clear_first =
        let m = 64 * (i + 1) in
        let k = 64 * length ws - m in
        let e : up_to (64 * length ws) ≡ up_to m ++ from m k = up_to_add _ _ _ (omega arith) in
        let first : keep (member ws) (up_to (64 * length ws))
        ≡ (64 * i + count_trailing_zeros 64 (get_or ws i 0))
        ∷ (members_from 64 (64 * i) (get_or ws i 0 - 2 ^ count_trailing_zeros 64 (get_or ws i 0)) ++ keep (member ws) (from m k)) =
        rw (e, keep_append, here, low.first) in
        find_some _ _ _ _ first

-- where the smallest member is n or more, no number below n is one
pub past_smallest : (n : ℕ) (ws : List ℕ) → n ≤ 64 * length ws → (r : ℕ)
    → r ≡ first_of (member ws) (64 * length ws) (up_to (64 * length ws)) → n ≤ r → (x : ℕ) → x < n → T (member ws x) → ⊥
past_smallest n ws long r e h x l t =
    at (rw e (first_below (member ws) (64 * length ws) (64 * length ws)))
  where
    at : First (member ws) (64 * length ws) 0 (64 * length ws) r → ⊥
    at (found lo hi s least) = least x (omega arith) (omega arith) t
    at (nothing q miss) = miss x (omega arith) (omega arith) t

-- a word that is not 0
abbrev pub some_bit : ℕ → Bool
some_bit word = not (word == 0)

no_bit : (w : ℕ) → some_bit w ≡ false → w ≡ 0
no_bit w e = grind (arith, nat_tests)

any_bit : (w : ℕ) → some_bit w ≡ true → w ≡ 0 → ⊥
any_bit w e z = grind (arith, nat_tests)

module _ (ws : List ℕ) where
  clear_words : (i : ℕ) → i ≤ length ws → ((k : ℕ) → k < i → some_bit (get_or ws k 0) ≡ false) → Clear ws i
  clear_words zero h e = clear_none
  clear_words (suc i) h e =
      rw add-one at (clear_more (clear_words i (omega arith) (λ k l. e k (omega arith))) (omega arith) (no_bit _ (e i (omega arith))))

  -- the smallest member is in the first word that is not 0
  pub smallest_none : position some_bit ws ≡ None → find (member ws) (up_to (64 * length ws)) ≡ None
  smallest_none e =
      let past : length ws ≤ position_or_len some_bit ws = ⊎_elim (λ l. absurd (let t = lt-ltb _ _ l in cc)) (λ h. h) (lt_or _ _) in
      clear_all (clear_words (length ws) (omega arith) (λ k l. fails_before_first some_bit ws k 0 (omega arith))) (omega arith)

  pub smallest_some : (i : ℕ) → get_or ws i 0 < 2 ^ 64 → position some_bit ws ≡ Some i
      → find (member ws) (up_to (64 * length ws)) ≡ Some (64 * i + count_trailing_zeros 64 (get_or ws i 0))
  smallest_some i l e =
      let at = position-Some some_bit ws i 0 e in
      clear_first (clear_words i (omega (arith, at.0)) at.2) at.0 (any_bit _ at.1) l

-- ---- the nodes below n

-- the k lowest bits alone
bit_low : (k j : ℕ) → bit (2 ^ k - 1) j ≡ ltb j k
bit_low zero j = bit_of_zero _ ∙ sym (le-ltb j 0 (omega arith))
bit_low (suc k) zero =
    bit_zero _ ∙ eq-eqb ((2 ^ suc k - 1) % 2) 1 (omega (arith, pow-suc 2 k, pow_pos k)) ∙ sym (lt-ltb 0 (suc k) (omega arith))
bit_low (suc k) (suc j) =
    let half : (2 ^ suc k - 1) / 2 ≡ 2 ^ k - 1 = omega (arith, pow-suc 2 k, pow_pos k) in
    bit_suc (2 ^ suc k - 1) j ∙ ap (λ (w : ℕ). bit w j) half ∙ bit_low k j
    ∙ ltb_same j k (suc j) (suc k) (λ h. omega arith) (λ h. omega arith)

-- the set is that of the numbers below n
pub record Below (ws : List ℕ) (n : ℕ) : Type 0 where
  pub long : length ws ≡ 16
  pub says : member ws ≡ (λ v. ltb v n)

pub below_none : {ws : List ℕ} → ws ≡ replicate 16 0 → Below ws 0
unfolding empty_set
below_none e = record {
  long = ap length e;
  says = ap member e ∙ empty_words 16 ∙ fun_ext (λ v. sym (le-ltb v 0 (omega arith)));
}

-- with the k lowest bits of word i, they are those below 64 * i + k
below_more : {ws : List ℕ} (i k : ℕ) → i < 16 → k ≤ 64 → Below ws (64 * i) → Below (set ws i (2 ^ k - 1)) (64 * i + k)
below_more {ws} i k h q b = record {
  long = length-set ws i (2 ^ k - 1) ∙ b.long;
  says = set_word _ _ _ (omega (arith, b.long))
      (λ x e. bit_low _ _ ∙ ltb_same (x % 64) k x (64 * i + k) (λ l. omega arith) (λ l. omega arith))
      (λ x d. ap (λ (f : Nodes). f x) b.says ∙ ltb_same x (64 * i) x (64 * i + k) (λ l. omega arith) (λ l. omega arith));
}

-- the first m words are full
pub below_words : (m : ℕ) → m ≤ 16 → {ws : List ℕ} → ws ≡ replicate 16 0 → Below (replicate m (2 ^ 64 - 1) ++ drop m ws) (64 * m)
below_words zero h e = below_none e
below_words (suc m) h {ws} e =
    let next : 64 * m + 64 ≡ 64 * (m + 1) = omega arith in
    let more = below_more m 64 (omega arith) (omega arith) (below_words m (omega arith) e) in
    rw (next, fill_more m (2 ^ 64 - 1) ws (omega (arith, ap length e)), add-one) at more

-- after the full words, the low bits of one more, or nothing
module _ {ws : List ℕ} (n : ℕ) (small : n ≤ 1024) (b : Below ws (64 * (n / 64))) where
  pub below_last : (n % 64 ≡ 0 → ⊥) → Below (set ws (n / 64) ((1 * 2 ^ (n % 64)) % 2 ^ 64 - 1)) n
  below_last d =
      let e : 64 * (n / 64) + n % 64 ≡ n = omega arith in
      rw (shifted (n % 64) (omega arith)) (rw e at (below_more (n / 64) (n % 64) (omega arith) (omega arith) b))

  pub below_all : n % 64 ≡ 0 → Below ws n
  below_all z = let e : 64 * (n / 64) ≡ n = omega arith in rw e at b
