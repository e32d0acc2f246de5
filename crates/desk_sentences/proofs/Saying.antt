-- A sentence and some nodes, of which the rest is still to be written: its next piece, and how long it may be.
-- Assumes nothing.
use mathlib.Core.Path.{◌≡◌, refl, sym, ap}
use mathlib.Core.Bool.{Bool, true, false}
use mathlib.Core.List.{List, [], ◌∷◌, ◌++◌, append_assoc}
use Prim.Native.Nat.{ℕ, suc, ◌+◌, ◌-◌, ◌*◌, ◌^◌, ◌≤◌, ◌<◌}
use native.Mathlib.Omega.{arith}
use borrow.Author.Tests.{ne_eqb}
use lib.Dec.{eqb}
use lib.ListN.{length, get_or, take, drop, drop_of_length-le, length-append}
use Rattle.std.proofs.lemmas.List.{take_all}
use Rattle.std.specs.Prelude.{if◌then◌else◌}
use Rattle.model.specs.Numbers.{digits}
use Rattle.model.specs.Basics.{gather, bytes}
use Rattle.model.proofs.Numbers.{length_le}
use Rattle.model.proofs.Loops.{drop_next}
use Rattle.text_writing.specs.declared.Writer.{Writer}
use Rattle.text_writing.specs.Writes.{Writes}
use Rattle.text_writing.proofs.Writing.{room_after, writes_append}
use Rattle.desk_sentences.specs.Sentences.{sentence, counted, nodes_end, hubs_line}

-- ---- a text of at most k bytes, and a text behind it

module _ {old mid : Writer} {t : List ℕ} (k : ℕ) (few : mid.at ≤ old.at + k) (p : Writes old mid t) where
  pub room_behind : (j : ℕ) → old.at + k + j ≤ length old.buf.now → mid.at + j ≤ length mid.buf.now
  room_behind j h = room_after p j (omega (arith, p.wrote.ends, few, h))

  pub writes_behind : {new : Writer} {u : List ℕ} (j : ℕ) → new.at ≤ mid.at + j → old.at + k + j ≤ length old.buf.now
      → Writes mid new u → Writes old new (t ++ u)
  writes_behind {u = u} j fewer h q =
      writes_append t u (omega (arith, p.wrote.ends, few, q.wrote.ends, fewer, h, length-append t u)) p q

-- ---- a sentence

-- all numbers but the first
abbrev rest : List ℕ → List ℕ
rest left = take (length left - 1) (drop 1 left)

sentence_number : (form left : List ℕ) → 1 ≤ length left → sentence (35 ∷ form) left ≡ digits (get_or left 0 0) ++ sentence form (rest left)
unfolding sentence
sentence_number form [] j = absurd (omega (arith, j))
sentence_number form (x ∷ left) j = ap (λ (l : List ℕ). digits x ++ sentence form l) (sym (take_all _ _ (omega arith)))

sentence_byte : (c : ℕ) (form left : List ℕ) → (1 ≤ length left → c ≡ 35 → ⊥) → sentence (c ∷ form) left ≡ c ∷ sentence form left
unfolding sentence
sentence_byte c form [] d = refl
sentence_byte c form (x ∷ left) d = rw (ne_eqb c 35 (d (omega arith)))

module _ (form left : List ℕ) (i : ℕ) (h : i < length form) where
  -- a `#` with a number left
  pub number_next : get_or form i 0 ≡ 35 → 1 ≤ length left
      → sentence (drop i form) left ≡ digits (get_or left 0 0) ++ sentence (drop (i + 1) form) (rest left)
  number_next e j = rw (drop_next form i h, e) (sentence_number _ _ j)

  -- any other byte, or no number left
  pub byte_next : (1 ≤ length left → get_or form i 0 ≡ 35 → ⊥)
      → sentence (drop i form) left ≡ (get_or form i 0 ∷ []) ++ sentence (drop (i + 1) form) left
  byte_next d = rw (drop_next form i h) (sentence_byte _ _ _ d)

pub sentence_end : (form left : List ℕ) (i : ℕ) → length form ≤ i → sentence (drop i form) left ≡ []
unfolding sentence
sentence_end form left i h = rw (drop_of_length-le form h) (at left)
  where
    at : (left : List ℕ) → sentence [] left ≡ []
    at [] = refl
    at (x ∷ left) = refl

-- a number of 64 bits has at most 20 digits
pub sentence_few : (form xs : List ℕ) → ((k : ℕ) → get_or xs k 0 < 2 ^ 64) → length (sentence form xs) ≤ length form + 20 * length xs
unfolding sentence
sentence_few form [] small = omega arith
sentence_few [] (x ∷ xs) small = omega arith
sentence_few (c ∷ form) (x ∷ xs) small = at (eqb c 35) (sentence_few form xs (λ k. small (suc k))) (sentence_few form (x ∷ xs) small)
  where
    at : (b : Bool) → length (sentence form xs) ≤ length form + 20 * length xs → length (sentence form (x ∷ xs)) ≤ length form + 20 * length (x ∷ xs)
        → length (if b then digits x ++ sentence form xs else c ∷ sentence form (x ∷ xs)) ≤ length (c ∷ form) + 20 * length (x ∷ xs)
    at true few others = omega (arith, length-append (digits x) (sentence form xs), length_le 19 x (omega (arith, small 0)), few)
    at false few others = omega (arith, others)

-- ---- nodes

pub node_next : (vs : List ℕ) (i : ℕ) → i < length vs → nodes_end (drop i vs) ≡ (32 ∷ digits (get_or vs i 0)) ++ nodes_end (drop (i + 1) vs)
unfolding nodes_end gather
node_next vs i h = rw (drop_next vs i h) (append_assoc (32 ∷ digits (get_or vs i 0)) _ _)

pub nodes_done : (vs : List ℕ) (i : ℕ) → length vs ≤ i → nodes_end (drop i vs) ≡ (10 ∷ []) ++ []
unfolding nodes_end gather bytes
nodes_done vs i h = rw (drop_of_length-le vs h)

-- a node of 16 bits has at most five digits
pub nodes_few : (vs : List ℕ) → ((k : ℕ) → get_or vs k 0 < 2 ^ 16) → length (nodes_end vs) ≤ 6 * length vs + 1
unfolding nodes_end gather bytes
nodes_few [] small = omega arith
nodes_few (v ∷ vs) small = omega (
  arith,
  ap length (append_assoc (32 ∷ digits v) (gather (λ u. 32 ∷ digits u) vs) (10 ∷ [])),
  length-append (32 ∷ digits v) (nodes_end vs),
  length_le 4 v (omega (arith, small 0)),
  nodes_few vs (λ k. small (suc k)),
)

-- ---- the hubs: none, or some

pub hubs_none : (vs : List ℕ) → length vs ≡ 0 → hubs_line vs ≡ bytes "0 hubs\n"
unfolding hubs_line
hubs_none [] e = refl
hubs_none (v ∷ vs) e = absurd (omega (arith, e))

pub hubs_some : (vs : List ℕ) → (length vs ≡ 0 → ⊥)
    → hubs_line vs ≡ counted (length vs) (bytes "1 hub:") (bytes "# hubs:") ++ nodes_end vs
unfolding hubs_line
hubs_some [] d = absurd (d refl)
hubs_some (v ∷ vs) d = refl
