-- The tests of the reader of a number are those of the text rule; and a byte stands at a place exactly where the text from there on begins
-- with it.
-- Assumes nothing.
use mathlib.Core.Path.{◌≡◌, refl, sym, ap, ◌∙◌, subst}
use mathlib.Core.Logic.{⊎_elim, inl, inr}
use mathlib.Core.Bool.{Bool, true, false}
use mathlib.Core.List.{List, [], ◌∷◌, ◌++◌, append_assoc, append-nil}
use Prim.Native.Nat.{ℕ, ◌+◌, ◌-◌, ◌≤◌, ◌<◌, min, zero-le}
use native.Mathlib.Nat.{le_refl}
use native.Mathlib.Omega.{arith}
use borrow.Author.Tests.{eq-eqb, ltb-true, eqb-true, eqb-false, ne_eqb, lt-ltb}
use lib.Dec.{T, ltb, eqb, not_T, T_not, eqb→eq}
use lib.ListN.{length, get_or, take, drop, length-take, length-drop, take-append-drop, drop_of_length-le}
use Rattle.model.specs.Basics.{has}
use Rattle.model.specs.Numbers.{is_number, value_of}
use Rattle.model.proofs.Lists.{of_single, of_append, none_in, has_later, has_head}
use Rattle.model.proofs.Loops.{drop_next}
use Rattle.model.proofs.Tests.{T_true, true_T, no_false, false_no, eq_T, lt_or}
use Rattle.model.proofs.Numbers.{number_text, text_number}
use Rattle.text_reading.specs.Scan.{run, number_of, number_at, has_byte, LineEnd, begins}
use Rattle.std.specs.Prelude.{Option as Found, Some, None, nat_eq}
use Rattle.std.specs.Borrow.{Bor}
use Rattle.std.specs.Option.{option_eq}
use Rattle.std.specs.List.{slice_range}
use Rattle.std.specs.Slice.{IsItemAt}
use Rattle.std.specs.List.{list_any, starts_with}
use Rattle.std.specs.Cmp.Lexicographic.{pointwise}
use Rattle.text_reading.proofs.Runs.{Digits, run_nil, run_all, run_split, run_take}

-- ---- numbers

-- what is found where a list of digits is a number
of_number : (at : ℕ) (t : List ℕ) → T (is_number t) → number_of at t ≡ Some (record { value = value_of t; end = at + length t })
of_number at t n = rw (T_true (is_number t) n)

-- ---- what the reader of a number tests

none_short : (t : List ℕ) → length t ≡ 0 → is_number t ≡ false
unfolding is_number
none_short [] h = refl
none_short (b ∷ t) h = absurd (omega arith)

none_long : (t : List ℕ) → 10 < length t → is_number t ≡ false
none_long [] h = absurd (omega arith)
none_long (b ∷ t) h = no_false _ (λ n. let f = (number_text _ _ n).few in omega arith)

none_zero : (t : List ℕ) → 1 < length t → get_or t 0 0 ≡ 48 → is_number t ≡ false
none_zero [] h e = absurd (omega arith)
none_zero (b ∷ t) h e =
    no_false _ (λ n.
    ⊎_elim (λ z. omega arith) (λ z. T_not (eqb b 48) z (eq_T b 48 e)) (number_text _ _ n).lead)

some_number : (t : List ℕ) → Digits t → 0 < length t → length t ≤ 10 → (1 < length t → get_or t 0 0 ≡ 48 → ⊥) → T (is_number t)
some_number [] a h k f = absurd (omega arith)
some_number (b ∷ []) a h k f = text_number _ _ (record { every = a; few = zero-le; lead = inl refl })
some_number (b ∷ c ∷ t) a h k f =
    let lead = inr (not_T (eqb b 48) (λ z. f (omega arith) (eqb→eq b 48 z))) in
    text_number _ _ (record { every = a; few = omega arith; lead = lead })

-- a front that is long enough is the whole
take_all : (k : ℕ) (t : List ℕ) → length t ≤ k → take k t ≡ t
take_all k t h = sym (append-nil (take k t)) ∙ ap (λ (r : List ℕ). take k t ++ r) (sym (drop_of_length-le t h)) ∙ take-append-drop k t

eleven_first : (u : List ℕ) (m : ℕ) → m ≡ min (length u) 11 → take m u ≡ take 11 u
eleven_first u m e = ⊎_elim
    (λ l. take_all m u (omega arith) ∙ sym (take_all 11 u (omega arith)))
    (λ l. let i : m ≡ 11 = omega arith in rw i refl)
    (lt_or (length u) 11)

-- the text from a place on, as `get` lends it
rest_of : (s : List ℕ) (at : ℕ) {r : List ℕ} → r ≡ slice_range s at (length s) → r ≡ drop at s
rest_of s at e = e ∙ take_all (length s - at) (drop at s) (omega (arith, length-drop at s))

-- ---- a byte at a place

-- the byte that `get` lends, compared
pub byte_got : (s : List ℕ) (i : ℕ) (r : Found (Bor ℕ)) (b : Bor ℕ) → IsItemAt s i r
    → option_eq (λ (x y : Bor ℕ). nat_eq x.now y.now) r (Some b) ≡ has_byte s i b.now
unfolding has_byte
byte_got s i None b l = rw (sym l.0) refl
byte_got s i (Some x) b l = rw (sym l.0, sym (l.4 (le_refl i) 0)) refl

-- a byte that stands at a place is within the text
pub has_within : (s : List ℕ) (i b : ℕ) → has_byte s i b ≡ true → i < length s
unfolding has_byte
has_within s i b h = go (ltb i (length s)) refl
  where
    go : (x : Bool) → ltb i (length s) ≡ x → i < length s
    go true e = ltb-true i (length s) e
    go false e =
        let z : false ≡ true = sym (rw e) ∙ h in
        let n : ◌≡◌ {A = ℕ} 0 1 = cc in
        absurd (omega arith)

-- a byte that comes first at a place stands there
has_first : (s : List ℕ) (i : ℕ) {b : ℕ} {t : List ℕ} → drop i s ≡ b ∷ t → (has_byte s i b ≡ true) × (drop (i + 1) s ≡ t)
unfolding has_byte
has_first s i {b} {t} h =
    let n = length-drop i s in
    let l : i < length s = omega (arith, ap length h) in
    let f : get_or s i 0 ∷ drop (i + 1) s ≡ b ∷ t = sym (drop_next s i l) ∙ h in
    let e : get_or s i 0 ≡ b = cc in
    (rw (lt-ltb i (length s) l, eq-eqb (get_or s i 0) b e), cc)

-- a byte that stands at a place comes first there
pub first_has : (s : List ℕ) (i b : ℕ) → has_byte s i b ≡ true → drop i s ≡ b ∷ drop (i + 1) s
unfolding has_byte
first_has s i b h =
    let l = has_within s i b h in
    let e : get_or s i 0 ≡ b = eqb-true (get_or s i 0) b (rw (lt-ltb i (length s) l) at h) in
    drop_next s i l ∙ rw e

-- ---- a number at a place

-- of the digits at a place of the text s at most eleven are read: their value is v, and their count k
module _ (s : List ℕ) (at : ℕ) {r : List ℕ} {m v k : ℕ} (rest : r ≡ slice_range s at (length s)) (most : m ≡ min (length r) 11)
    (read : (v ≡ value_of (run (take m r))) × (k ≡ length (run (take m r)))) where
  -- all of them
  abbrev t : List ℕ
  t = run (drop at s)

  -- the first eleven
  abbrev read_first : take m r ≡ take 11 (drop at s)
  read_first = eleven_first r m most ∙ ap (take 11) (rest_of s at rest)

  value : v ≡ value_of (take 11 t)
  value = read.0 ∙ ap (λ u. value_of (run u)) read_first ∙ ap value_of (run_take 11 (drop at s))

  count : k ≡ length (take 11 t)
  count = read.1 ∙ ap (λ u. length (run u)) read_first ∙ ap length (run_take 11 (drop at s))

  few : k ≡ min 11 (length t)
  few = count ∙ length-take 11 t

  none : is_number t ≡ false → None ≡ number_at s at
  unfolding number_at
  none h = rw h

  pub read_empty : k ≡ 0 → None ≡ number_at s at
  read_empty h = none (none_short _ (omega (arith, few)))

  pub read_long : 10 < k → None ≡ number_at s at
  read_long h = none (none_long _ (omega (arith, few)))

  -- the first digit is the byte at the place
  first : 0 < k → drop at s ≡ get_or t 0 0 ∷ drop (at + 1) s
  first h = go t refl
    where
      go : (u : List ℕ) → t ≡ u → drop at s ≡ get_or u 0 0 ∷ drop (at + 1) s
      go [] e = absurd (omega (arith, h, few, ap length e))
      go (b ∷ u) e =
          let begins_with : drop at s ≡ b ∷ (u ++ drop (length t) (drop at s)) =
          run_split (drop at s) ∙ ap (λ (x : List ℕ). x ++ drop (length t) (drop at s)) e in
          first_has s at b (has_first s at begins_with).0

  pub read_zero : 1 < k → has_byte s at 48 ≡ true → None ≡ number_at s at
  read_zero h z =
      let same : get_or t 0 0 ∷ drop (at + 1) s ≡ 48 ∷ drop (at + 1) s = sym (first (omega arith)) ∙ first_has s at 48 z in
      none (none_zero _ (omega (arith, few)) (ap (λ (x : List ℕ). get_or x 0 0) same))

  pub read_found : (k ≡ 0 → ⊥) → k ≤ 10 → (1 < k → has_byte s at 48 ≡ false) → Some (record { value = v; end = at + k }) ≡ number_at s at
  unfolding number_at
  read_found h l z =
      let whole : take 11 t ≡ t = take_all 11 t (omega (arith, few)) in
      let long : k ≡ length t = count ∙ ap length whole in
      let no_zero : 1 < length t → get_or t 0 0 ≡ 48 → ⊥ =
      λ m f. false_no _ (z (omega arith)) (true_T _ (has_first s at (first (omega arith) ∙ ap (λ (x : ℕ). x ∷ drop (at + 1) s) f)).0) in
      let n = some_number t (run_all _) (omega arith) (omega arith) no_zero in
      rw (value ∙ ap value_of whole, long) (sym (of_number at t n))

-- no digit stands past the text
pub read_past : (s : List ℕ) (at : ℕ) → length s ≤ at → None ≡ number_at s at
unfolding number_at is_number
read_past s at h = rw (drop_of_length-le s h, run_nil)

-- ---- a word at a place

eqb_comm : (a b : ℕ) → eqb a b ≡ eqb b a
eqb_comm a b = go (eqb a b) refl
  where
    go : (t : Bool) → eqb a b ≡ t → t ≡ eqb b a
    go true e = sym (eq-eqb b a (sym (eqb-true a b e)))
    go false e = sym (ne_eqb b a (λ h. eqb-false a b e (sym h)))

-- a text starts with a word
word_first : (word t : List ℕ) → pointwise nat_eq word (take (length word) t) ≡ begins word t
unfolding begins
word_first [] t = refl
word_first (w ∷ word) [] = refl
word_first (w ∷ word) (x ∷ t) = rw (word_first word t, eqb_comm w x) refl

pub word_at : (s word : List ℕ) (at : ℕ) {m : ℕ} → m ≡ min at (length s) → starts_with nat_eq (slice_range s m (length s)) word ≡ begins word (drop at s)
word_at s word at {m} e =
    word_first word (slice_range s m (length s)) ∙ ap (begins word) (rest_of s m refl ∙ ⊎_elim within past (lt_or at (length s)))
  where
    within : at < length s → drop m s ≡ drop at s
    within l = let same : m ≡ at = omega arith in rw same refl

    past : length s ≤ at → drop m s ≡ drop at s
    past l = let end : length s ≤ m = omega arith in rw (drop_of_length-le s end, drop_of_length-le s l) refl

-- ---- the end of a line

-- the bytes from a place to place i are no line feed
pub record Ahead (s : List ℕ) (at i : ℕ) : Type 0 where
  pub line : List ℕ
  pub is_text : drop at s ≡ line ++ drop i s
  pub free : T (has 10 line) → ⊥

pub ahead_none : (s : List ℕ) (at : ℕ) → Ahead s at at
ahead_none s at = record { line = []; is_text = refl; free = none_in 10 }

module _ {s : List ℕ} {at i : ℕ} (a : Ahead s at i) where
  pub ahead_next : i < length s → (get_or s i 0 ≡ 10 → ⊥) → Ahead s at (i + 1)
  ahead_next h n =
      let x = get_or s i 0 in
      record {
        line = a.line ++ x ∷ [];
        is_text = a.is_text ∙ ap (λ (r : List ℕ). a.line ++ r) (drop_next s i h) ∙ sym (append_assoc a.line (x ∷ []) (drop (i + 1) s));
        free = λ f. ⊎_elim a.free (λ f. n (sym (of_single 10 x f))) (of_append 10 a.line (x ∷ []) f);
      }

  pub ahead_end : (i < length s → get_or s i 0 ≡ 10) → LineEnd s at i
  ahead_end f = record { line = a.line; is_text = a.is_text; free = a.free; feed = f }

-- the rest of a text after a line that ends within it
pub after_line : {s : List ℕ} {at e : ℕ} (l : LineEnd s at e) → e < length s → drop at s ≡ l.line ++ 10 ∷ drop (e + 1) s
after_line {s} {at} {e} l h =
    l.is_text ∙ ap (λ (r : List ℕ). l.line ++ r) (drop_next s e h ∙ ap (λ (x : ℕ). x ∷ drop (e + 1) s) (l.feed h))

-- a line that ends with the text has no line feed
pub no_feed_left : {s : List ℕ} {at e : ℕ} → LineEnd s at e → length s ≤ e → T (has 10 (drop at s)) → ⊥
no_feed_left {s} l h f =
    l.free (subst (λ (r : List ℕ). T (has 10 r))
    (l.is_text ∙ ap (λ (r : List ℕ). l.line ++ r) (drop_of_length-le s h) ∙ append-nil l.line) f)

-- the bytes have a line feed, or none
module _ (s : List ℕ) {e : ℕ} (l : LineEnd s 0 e) where
  pub feed_within : e < length s → has 10 s ≡ true
  feed_within h = ap (has 10) (after_line l h) ∙ T_true _ (has_later 10 l.line (10 ∷ drop (e + 1) s) (has_head 10 (drop (e + 1) s)))

  pub feed_missing : length s ≤ e → has 10 s ≡ false
  feed_missing h = no_false (has 10 s) (no_feed_left l h)

-- `contains` looks for a byte
pub contained : (x : ℕ) (xs : List ℕ) → list_any (λ y. nat_eq y x) xs ≡ has x xs
unfolding has
contained x [] = refl
contained x (y ∷ xs) = rw (contained x xs, eqb_comm x y) refl
