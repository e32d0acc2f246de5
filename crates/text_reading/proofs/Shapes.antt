-- A line by its shape: what the reader finds, word, numbers and line feed one after the other, is the model's line.
-- Assumes nothing.
use mathlib.Core.Path.{◌≡◌, refl, sym, ap, ap₂, ◌∙◌, subst}
use mathlib.Core.Logic.{◌⊎◌, inl, inr, ⊎_elim}
use mathlib.Core.Bool.{Bool, true, false, not, ◌&&◌}
use mathlib.Core.List.{List, [], ◌∷◌, ◌++◌, map, append_assoc, append-nil}
use mathlib.Core.Option
use mathlib.Core.Option.{Option, none as missing, some, bind, bind-eq-some_iff, map-eq-some_iff}
use Prim.Native.Nat.{ℕ, zero, suc, ◌+◌, ◌-◌, ◌^◌, ◌≤◌, ◌<◌}
use native.Mathlib.Omega.{arith}
use borrow.Author.Tests.{ltb-true, leb-true, lt-ltb, lt-leb}
use lib.Dec.{T, eqb, ltb, leb, T_not}
use lib.ListN.{length, get_or, drop, length-append, length-drop, drop_of_length-le}
use lib.Seq.{drop-drop, drop-append_seam}
use Rattle.model.specs.Basics.{has, gather}
use Rattle.std.specs.Prelude.{if◌then◌else◌}
use Rattle.model.specs.Numbers.{is_digit, is_number, value_of, digits}
use Rattle.model.specs.Lines.{behind, number_line, two_line, number_line_of}
use Rattle.model.proofs.Loops.{drop_next}
use Rattle.model.proofs.Tests.{and_l, and_r, T_true, true_T, eq_T, lt_or}
use Rattle.model.proofs.Outcomes.{no_value}
use Rattle.model.proofs.Numbers.{digits_value, digits_number, digits_all, value_digits, value_below}
use Rattle.model.proofs.Lines.{AllSmall, behind_word, of_behind, number_complete, number_sound, line_text}
use Rattle.text_reading.specs.Scan.{run, number_at, has_byte, begins, number_first, field_first, on_numbers, numbers_first, is_shape}
use Rattle.text_reading.specs.Scan.{line_by, pair_by, found_number}
use Rattle.std.specs.Prelude.{Some, None}
use Rattle.text_reading.proofs.Runs.{NoDigit, run_append, run_split}
use Rattle.text_reading.proofs.Scanning.{first_has}

-- ---- a number that a text begins with

number_sound_first : (t : List ℕ) (v : ℕ) (r : List ℕ) → number_first t ≡ some (v, r) → (v < 10 ^ 10) × (t ≡ digits v ++ r)
unfolding number_first
number_sound_first t v r e = at (is_number (run t)) refl e
  where
    first : ℕ × List ℕ
    first = (value_of (run t), drop (length (run t)) t)

    at : (b : Bool) → is_number (run t) ≡ b → (if b then some first else missing) ≡ some (v, r) → (v < 10 ^ 10) × (t ≡ digits v ++ r)
    at false h e = no_value e
    at true h e =
        let n = true_T (is_number (run t)) h in
        let f : ◌≡◌ {A = ℕ × List ℕ} first (v, r) = cc in
        subst (λ (p : ℕ × List ℕ). (p.0 < 10 ^ 10) × (t ≡ digits p.0 ++ p.1)) f
        (value_below (run t) n, run_split t ∙ ap (λ (d : List ℕ). d ++ drop (length (run t)) t) (sym (digits_value (run t) n)))

number_complete_first : (v : ℕ) (r : List ℕ) → v < 10 ^ 10 → NoDigit r → number_first (digits v ++ r) ≡ some (v, r)
unfolding number_first
number_complete_first v r h n =
    let ds : List ℕ = digits v in
    rw (run_append ds r (digits_all v) n, T_true (is_number ds) (digits_number v h), drop-append_seam ds r)
    (ap (λ (x : ℕ). some (x, r)) (value_digits v))

-- ---- fields

-- what stands before the line feed, word aside
abbrev field_bytes : (separator : ℕ) → List ℕ → List ℕ
field_bytes c xs = gather (λ f. c ∷ f) (map digits xs)

field_sound_first : (c : ℕ) (t : List ℕ) (v : ℕ) (r : List ℕ) → field_first c t ≡ some (v, r) → (v < 10 ^ 10) × (t ≡ c ∷ (digits v ++ r))
unfolding field_first
field_sound_first c t v r e =
    let i = (bind-eq-some_iff (behind (c ∷ []) t) number_first).0 e in
    let n = number_sound_first i.0 v r i.2 in
    (n.0, of_behind (c ∷ []) t i.0 i.1 ∙ ap (λ (l : List ℕ). c ∷ l) n.1)

field_complete_first : (c v : ℕ) (r : List ℕ) → v < 10 ^ 10 → NoDigit r → field_first c (c ∷ (digits v ++ r)) ≡ some (v, r)
unfolding field_first bind
field_complete_first c v r h n =
    ap (λ (o : Option (List ℕ)). bind o number_first) (behind_word (c ∷ []) (digits v ++ r)) ∙ number_complete_first v r h n

-- the number at a place is the one that the text from there on begins with
number_at_place : (s : List ℕ) (i : ℕ) → found_number s (number_at s i) ≡ number_first (drop i s)
unfolding number_at number_first
number_at_place s i = at (is_number (run (drop i s)))
  where
    ds : List ℕ
    ds = run (drop i s)

    at : (b : Bool) → found_number s (if b then Some (record { value = value_of ds; end = i + length ds }) else None)
        ≡ (if◌then◌else◌ {A = Option (ℕ × List ℕ)} b (some (value_of ds, drop (length ds) (drop i s))) missing)
    at true = ap (λ (r : List ℕ). some (value_of ds, r)) (sym (drop-drop (length ds) i s))
    at false = refl

-- the field at a place
module _ (s : List ℕ) (i c : ℕ) where
  at_byte : has_byte s i c ≡ true → behind (c ∷ []) (drop i s) ≡ some (drop (i + 1) s)
  at_byte h = ap (behind (c ∷ [])) (first_has s i c h) ∙ behind_word (c ∷ []) (drop (i + 1) s)

  no_byte : has_byte s i c ≡ false → behind (c ∷ []) (drop i s) ≡ missing
  unfolding behind has_byte
  no_byte h = ⊎_elim here past (lt_or i (length s))
    where
      here : i < length s → behind (c ∷ []) (drop i s) ≡ missing
      here l =
          let differs : eqb (get_or s i 0) c ≡ false = rw (lt-ltb i (length s) l) at h in
          rw (drop_next s i l, differs) refl

      past : length s ≤ i → behind (c ∷ []) (drop i s) ≡ missing
      past l = rw (drop_of_length-le s l) refl

  pub field_missing : has_byte s i c ≡ false → missing ≡ field_first c (drop i s)
  unfolding field_first bind
  field_missing h = sym (ap (λ (o : Option (List ℕ)). bind o number_first) (no_byte h))

  pub field_found : has_byte s i c ≡ true → found_number s (number_at s (i + 1)) ≡ field_first c (drop i s)
  unfolding field_first bind
  field_found h = number_here ∙ sym (ap (λ (o : Option (List ℕ)). bind o number_first) (at_byte h))
    where
      number_here : found_number s (number_at s (i + 1)) ≡ number_first (drop (i + 1) s)
      number_here = number_at_place s (i + 1)

-- a text begins with these numbers, each after a separator
record Begin (c count : ℕ) (t xs r : List ℕ) : Type 0 where
  pub small : AllSmall xs
  pub counted : length xs ≡ count
  pub is_text : t ≡ field_bytes c xs ++ r

numbers_sound_first : (c count : ℕ) (t xs r : List ℕ) → numbers_first c count t ≡ some (xs, r) → Begin c count t xs r
unfolding numbers_first gather
numbers_sound_first c zero t xs r e =
    let f : ◌≡◌ {A = List ℕ × List ℕ} ([], t) (xs, r) = cc in
    subst (λ (p : List ℕ × List ℕ). Begin c zero t p.0 p.1) f (record { small = tt; counted = refl; is_text = refl })
numbers_sound_first c (suc count) t xs r e =
    let i = (bind-eq-some_iff (field_first c t) (λ f. on_numbers f.0 (numbers_first c count f.1))).0 e in
    let v = i.0.0 in
    let rest = i.0.1 in
    let n = field_sound_first c t v rest i.1 in
    let on : List ℕ × List ℕ → List ℕ × List ℕ = λ l. (v ∷ l.0, l.1) in
    let j = (map-eq-some_iff on (numbers_first c count rest)).0 i.2 in
    let b = numbers_sound_first c count rest j.0.0 j.0.1 j.1 in
    subst (λ (p : List ℕ × List ℕ). Begin c (suc count) t p.0 p.1) j.2
    (record {
      small = (n.0, b.small);
      counted = ap suc b.counted;
      is_text =
          n.1 ∙ ap (λ (l : List ℕ). c ∷ (digits v ++ l)) b.is_text
          ∙ sym (ap (λ (l : List ℕ). c ∷ l) (append_assoc (digits v) (field_bytes c j.0.0) j.0.1));
    })

-- no digit comes after a number: a separator does, or what comes after the numbers
no_digit_next : (c : ℕ) → c < 48 → (xs r : List ℕ) → NoDigit r → NoDigit (field_bytes c xs ++ r)
unfolding gather is_digit
no_digit_next c h [] r n = n
no_digit_next c h (x ∷ xs) r n = rw (lt-leb 48 c h) tt

numbers_complete_first : (c : ℕ) → c < 48 → (xs r : List ℕ) → AllSmall xs → NoDigit r
    → numbers_first c (length xs) (field_bytes c xs ++ r) ≡ some (xs, r)
unfolding numbers_first gather bind
numbers_complete_first c h [] r a n = refl
numbers_complete_first c h (x ∷ xs) r a n =
    ap (λ (t : List ℕ). numbers_first c (suc (length xs)) (c ∷ t)) (append_assoc (digits x) (field_bytes c xs) r)
    ∙ ap (λ (o : Option (ℕ × List ℕ)). bind o (λ f. on_numbers f.0 (numbers_first c (length xs) f.1)))
    (field_complete_first c x (field_bytes c xs ++ r) a.0 (no_digit_next c h xs r n))
    ∙ ap (on_numbers x) (numbers_complete_first c h xs r a.1 n)

-- ---- numbers one after the other: the last three are kept

-- numbers in front of those that are still to come
abbrev pub prepended : List ℕ → Option (List ℕ × List ℕ) → Option (List ℕ × List ℕ)
prepended xs o = Option.map (λ l. (xs ++ l.0, l.1)) o

-- the last k of three
abbrev pub last_of : (k x y z : ℕ) → List ℕ
last_of k x y z = drop (3 - k) (x ∷ y ∷ z ∷ [])

shifted : (k x y z v : ℕ) → k < 3 → last_of (k + 1) y z v ≡ last_of k x y z ++ v ∷ []
shifted zero x y z v h = refl
shifted (suc zero) x y z v h = refl
shifted (suc (suc zero)) x y z v h = refl
shifted (suc (suc (suc k))) x y z v h = absurd (omega arith)

pub none_yet : (x y z : ℕ) (o : Option (List ℕ × List ℕ)) → prepended (last_of 0 x y z) o ≡ o
none_yet x y z missing = refl
none_yet x y z (some l) = refl

module _ (c count : ℕ) (few : count ≤ 3) (k x y z : ℕ) (t : List ℕ) where
  module _ (h : k < count) where
    left : count - k ≡ suc (count - (k + 1))
    left = omega arith

    pub number_next : (v : ℕ) (r : List ℕ) → field_first c t ≡ some (v, r)
        → prepended (last_of (k + 1) y z v) (numbers_first c (count - (k + 1)) r) ≡ prepended (last_of k x y z) (numbers_first c (count - k) t)
    unfolding numbers_first bind
    number_next v r e = rw (left, e, shifted k x y z v (omega arith)) (onto (numbers_first c (count - (k + 1)) r))
      where
        onto : (o : Option (List ℕ × List ℕ)) → prepended (last_of k x y z ++ v ∷ []) o ≡ prepended (last_of k x y z) (on_numbers v o)
        onto missing = refl
        onto (some l) = ap (λ (xs : List ℕ). some (xs, l.1)) (append_assoc (last_of k x y z) (v ∷ []) l.0)

    pub number_missing : field_first c t ≡ missing → missing ≡ prepended (last_of k x y z) (numbers_first c (count - k) t)
    unfolding numbers_first bind
    number_missing e = rw (left, e) refl

  pub all_numbers : k ≡ count → some (last_of count x y z, t) ≡ prepended (last_of k x y z) (numbers_first c (count - k) t)
  unfolding numbers_first
  all_numbers e = let done : count - k ≡ 0 = omega arith in rw (done, e, append-nil (last_of count x y z)) refl

-- ---- the line

-- the numbers of a line whose line feed comes next
abbrev pub ended : List ℕ × List ℕ → Option (List ℕ × List ℕ)
ended l = Option.map (λ rest. (l.0, rest)) (behind (10 ∷ []) l.1)

-- the line that a text begins with, as the reader goes through it
abbrev pub scanned : (word : List ℕ) (separator count : ℕ) → List ℕ → Option (List ℕ × List ℕ)
scanned word c count t = bind (behind word t) (λ r. bind (numbers_first c count r) ended)

-- the word that a text begins with, and what comes after it
word_found : (word t : List ℕ) → begins word t ≡ true → behind word t ≡ some (drop (length word) t)
unfolding begins behind
word_found [] t h = refl
word_found (w ∷ word) [] h = absurd (true_T false h)
word_found (w ∷ word) (x ∷ t) h = at (eqb x w) h (word_found word t)
  where
    at : (b : Bool) → (b && begins word t) ≡ true → (begins word t ≡ true → behind word t ≡ some (drop (length word) t))
        → (if b then behind word t else missing) ≡ some (drop (length word) t)
    at true h rec = rec h
    at false h rec = absurd (true_T false h)

word_missing : (word t : List ℕ) → begins word t ≡ false → behind word t ≡ missing
unfolding begins behind
word_missing [] t h = absurd (true_T false (sym h))
word_missing (w ∷ word) [] h = refl
word_missing (w ∷ word) (x ∷ t) h = at (eqb x w) h (word_missing word t)
  where
    at : (b : Bool) → (b && begins word t) ≡ false → (begins word t ≡ false → behind word t ≡ missing)
        → (if b then behind word t else missing) ≡ missing
    at true h rec = rec h
    at false h rec = refl

-- a word that stands at a place ends within the text
pub word_within : (word s : List ℕ) (at : ℕ) → begins word (drop at s) ≡ true → (length word ≡ 0) ⊎ (at + length word ≤ length s)
word_within word s at h =
    let long = ap length (of_behind word (drop at s) _ (word_found word (drop at s) h)) ∙ length-append word _ in
    at_length (length word) (omega (arith, long, length-drop at s))
  where
    at_length : (k : ℕ) → k ≤ length s - at → (k ≡ 0) ⊎ (at + k ≤ length s)
    at_length zero l = inl refl
    at_length (suc k) l = inr (omega arith)

-- two options with the same values are the same
same_option : {A : Type 0} (o u : Option A) → ((x : A) → o ≡ some x → u ≡ some x) → ((x : A) → u ≡ some x → o ≡ some x) → o ≡ u
same_option missing missing f g = refl
same_option missing (some x) f g = g x refl
same_option (some x) u f g = sym (f x refl)

module _ (word : List ℕ) (c count : ℕ) (is : T (is_shape word c count)) where
  -- the tests of a shape
  abbrev below_digits : Bool
  below_digits = ltb c 48

  abbrev no_line_feed : Bool
  no_line_feed = not (eqb c 10)

  abbrev at_most_three : Bool
  at_most_three = leb count 3

  one_line : T (has 10 word) → ⊥
  unfolding is_shape
  one_line = T_not (has 10 word) (and_l (not (has 10 word)) (below_digits && no_line_feed && at_most_three) is)

  counts : T (below_digits && no_line_feed && at_most_three)
  unfolding is_shape
  counts = and_r (not (has 10 word)) (below_digits && no_line_feed && at_most_three) is

  parts : T (below_digits && no_line_feed)
  parts = and_l (below_digits && no_line_feed) at_most_three counts

  low : c < 48
  low = ltb-true c 48 (T_true below_digits (and_l below_digits no_line_feed parts))

  no_feed : c ≡ 10 → ⊥
  no_feed e = T_not (eqb c 10) (and_r below_digits no_line_feed parts) (eq_T c 10 e)

  pub few : count ≤ 3
  few = leb-true count 3 (T_true at_most_three (and_r (below_digits && no_line_feed) at_most_three counts))

  scan_sound : (t : List ℕ) (l : List ℕ × List ℕ) → scanned word c count t ≡ some l → number_line word c count t ≡ some l
  scan_sound t l e =
      let i = (bind-eq-some_iff (behind word t) (λ r. bind (numbers_first c count r) ended)).0 e in
      let j = (bind-eq-some_iff (numbers_first c count i.0) ended).0 i.2 in
      let xs = j.0.0 in
      let k = (map-eq-some_iff {B = List ℕ × List ℕ} (λ (rest : List ℕ). (xs, rest)) (behind (10 ∷ []) j.0.1)).0 j.2 in
      let b = numbers_sound_first c count i.0 xs j.0.1 j.1 in
      let rest = k.0 in
      let text : t ≡ number_line_of word c xs ++ rest =
      of_behind word t i.0 i.1 ∙ ap (λ (s : List ℕ). word ++ s)
      (b.is_text ∙ ap (λ (s : List ℕ). field_bytes c xs ++ s) (of_behind (10 ∷ []) j.0.1 rest k.1))
      ∙ sym (append_assoc word (field_bytes c xs) (10 ∷ rest)) ∙ sym (line_text word c (map digits xs) rest) in
      ap₂ (λ (m : ℕ) (s : List ℕ). number_line word c m s) (sym b.counted) text
      ∙ number_complete word c one_line no_feed low xs b.small rest ∙ ap some k.2

  scan_complete : (t : List ℕ) (l : List ℕ × List ℕ) → number_line word c count t ≡ some l → scanned word c count t ≡ some l
  unfolding is_digit bind
  scan_complete t l e =
      let n = number_sound word c count t l.0 l.1 e in
      let xs = l.0 in
      let text : t ≡ word ++ (field_bytes c xs ++ 10 ∷ l.1) =
      n.is_text ∙ line_text word c (map digits xs) l.1 ∙ append_assoc word (field_bytes c xs) (10 ∷ l.1) in
      ap₂ (λ (m : ℕ) (s : List ℕ). scanned word c m s) (sym n.counted) text
      ∙ ap (λ (o : Option (List ℕ)). bind o (λ r. bind (numbers_first c (length xs) r) ended)) (behind_word word (field_bytes c xs ++ 10 ∷ l.1))
      ∙ ap (λ (o : Option (List ℕ × List ℕ)). bind o ended) (numbers_complete_first c low xs (10 ∷ l.1) n.small tt)
      ∙ ap (Option.map (λ rest. (xs, rest))) (behind_word (10 ∷ []) l.1)

  -- what the reader finds is the model's line
  pub scanned_line : (t : List ℕ) → scanned word c count t ≡ number_line word c count t
  scanned_line t = same_option _ _ (scan_sound t) (scan_complete t)

  -- ---- the line at a place

  module _ (s : List ℕ) (at : ℕ) where
    from_word : (o : Option (List ℕ)) → behind word (drop at s) ≡ o
        → bind o (λ r. bind (numbers_first c count r) ended) ≡ number_line word c count (drop at s)
    from_word o e = ap (λ (o : Option (List ℕ)). bind o (λ r. bind (numbers_first c count r) ended)) (sym e) ∙ scanned_line (drop at s)

    pub no_word : begins word (drop at s) ≡ false → missing ≡ number_line word c count (drop at s)
    unfolding bind
    no_word h = from_word missing (word_missing word (drop at s) h)

    module _ (h : begins word (drop at s) ≡ true) where
      from_numbers : (o : Option (List ℕ × List ℕ)) → numbers_first c count (drop (at + length word) s) ≡ o
          → bind o ended ≡ number_line word c count (drop at s)
      unfolding bind
      from_numbers o e =
          ap (λ (o : Option (List ℕ × List ℕ)). bind o ended) (sym e)
          ∙ from_word (some (drop (at + length word) s)) (word_found word (drop at s) h ∙ ap some (drop-drop (length word) at s))

      pub no_numbers : numbers_first c count (drop (at + length word) s) ≡ missing → missing ≡ number_line word c count (drop at s)
      unfolding bind
      no_numbers e = from_numbers missing e

      module _ {xs : List ℕ} (end : ℕ) (e : numbers_first c count (drop (at + length word) s) ≡ some (xs, drop end s)) where
        pub no_end : has_byte s end 10 ≡ false → missing ≡ number_line word c count (drop at s)
        unfolding bind
        no_end n = sym (ap (Option.map (λ rest. (xs, rest))) (no_byte s end 10 n)) ∙ from_numbers (some (xs, drop end s)) e

        pub whole_line : has_byte s end 10 ≡ true → some (xs, drop (end + 1) s) ≡ number_line word c count (drop at s)
        unfolding bind
        whole_line n = sym (ap (Option.map (λ rest. (xs, rest))) (at_byte s end 10 n)) ∙ from_numbers (some (xs, drop end s)) e

-- ---- a line of two numbers

-- the first two numbers of a line, and the text after it
abbrev pub first_two : List ℕ × List ℕ → ℕ × ℕ × List ℕ
first_two l = (get_or l.0 0 0, get_or l.0 1 0, l.1)

pub pair_line : (word : List ℕ) (c : ℕ) (t : List ℕ) (o : Option (List ℕ × List ℕ)) → o ≡ line_by word c 2 t
    → Option.map first_two o ≡ pair_by word c t
unfolding two_line
pair_line word c t o e = ap (Option.map first_two) e ∙ at (is_shape word c 2)
  where
    at : (b : Bool) → Option.map first_two (if b then number_line word c 2 t else missing) ≡ (if b then two_line word c t else missing)
    at true = refl
    at false = refl
