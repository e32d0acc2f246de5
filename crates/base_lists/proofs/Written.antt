-- Laws of entries written into a list.
-- Assumes nothing.
use mathlib.Core.Path.{◌≡◌, refl, sym, ap, ◌∙◌}
use mathlib.Core.List.{List, [], ◌∷◌, ◌++◌, append_assoc, append-nil}
use Prim.Native.Nat.{ℕ, ◌+◌, ◌-◌, ◌≤◌}
use native.Mathlib.Numerals.{add-one}
use native.Mathlib.Omega.{arith}
use borrow.Rule.Slice.PartMut.{put_mid}
use lib.ListN.{length, take, drop, set, length-append, drop_of_length-le}
use lib.Seq.{set_split, append_snoc, length-take-le, take-length, length-paste, take_at, drop-append-add, drop-drop, paste-zero}
use Rattle.model.specs.Basics.{over}
use Rattle.base_lists.specs.Written.{written, Wrote}

write_one : {A : Type 0} (buf : List A) (at : ℕ) (b : A) → at + 1 ≤ length buf → set buf at b ≡ written buf at (b ∷ [])
unfolding written
write_one buf at b h = set_split buf at b (omega arith) ∙ rw (append_snoc (take at buf) b (drop (at + 1) buf), add-one)

length_head : {A : Type 0} (buf : List A) (at : ℕ) (t : List A) → at ≤ length buf → length (take at buf ++ t) ≡ at + length t
length_head buf at t h = rw (length-append, length-take-le at buf h)

length_written : {A : Type 0} (buf : List A) (at : ℕ) (t : List A) → at + length t ≤ length buf → length (written buf at t) ≡ length buf
unfolding written
length_written buf at t h = rw take-length at (length-paste buf at t (length t) h (omega arith))

-- a text written behind a text: the two in a row
written_behind : {A : Type 0} (buf : List A) (at : ℕ) (t u : List A) → at + length t + length u ≤ length buf
    → written (written buf at t) (at + length t) u ≡ written buf at (t ++ u)
unfolding written
written_behind {A = A} buf at t u h =
    let head : List A = take at buf ++ t in
    let rest : List A = drop (at + length t) buf in
    let l : length head ≡ at + length t = length_head _ at t (omega arith) in
    let end : at + length t + length u ≡ at + length (t ++ u) = rw length-append (omega arith) in
    let after : drop (at + length t + length u) (head ++ rest) ≡ drop (at + length (t ++ u)) buf =
    ap (λ (k : ℕ). drop (k + length u) (head ++ rest)) (sym l) ∙ drop-append-add head rest (length u)
    ∙ drop-drop (length u) (at + length t) buf ∙ ap (λ (k : ℕ). drop k buf) end in
    rw (take_at head rest (at + length t) l, after, append_assoc (take at buf) t u)

-- nothing
pub wrote_none : {A : Type 0} (buf : List A) (at : ℕ) → Wrote buf buf at at []
unfolding written
wrote_none buf at = record { ends = omega arith; text = paste-zero _ at [] }

-- one byte
pub wrote_one : {A : Type 0} (buf : List A) (at : ℕ) (b : A) → at + 1 ≤ length buf → Wrote buf (set buf at b) at (at + 1) (b ∷ [])
wrote_one buf at b h = record { ends = refl; text = write_one _ at b h }

-- a text, and a text behind it
pub wrote_then : {A : Type 0} {buf buf' buf'' : List A} {at i e : ℕ} {t u : List A}
    → at + length t + length u ≤ length buf → Wrote buf buf' at i t → Wrote buf' buf'' i e u → Wrote buf buf'' at e (t ++ u)
wrote_then {buf = buf} {at = at} {t = t} {u = u} h p q = record {
  ends = rw (length-append _ _) (omega (arith, p.ends, q.ends));
  text = q.text ∙ rw (p.text, p.ends) (written_behind _ at t u h);
}

pub wrote_length : {A : Type 0} {buf buf' : List A} {at e : ℕ} {t : List A}
    → at + length t ≤ length buf → Wrote buf buf' at e t → length buf' ≡ length buf
wrote_length {buf = buf} {at = at} {t = t} h w = ap length w.text ∙ length_written _ at t h

-- what is left behind a text has room for a next one
pub wrote_room : {A : Type 0} {buf buf' : List A} {at i : ℕ} {t : List A} (u : List A)
    → at + length t + length u ≤ length buf → Wrote buf buf' at i t → i + length u ≤ length buf'
wrote_room u h w = omega (arith, wrote_length (omega arith) w, w.ends)

-- a text in front of a list is written from the first place on
pub wrote_front : {A : Type 0} (t buf : List A) → Wrote buf (t ++ drop (length t) buf) 0 (length t) t
unfolding written
wrote_front t buf =
    let z : 0 + length t ≡ length t = omega arith in
    record { ends = sym z; text = ap (λ (k : ℕ). t ++ drop k buf) (sym z) }

-- a text written from the first place on replaces the front
pub wrote_over : {buf buf' : List ℕ} {e : ℕ} (t : List ℕ) → Wrote buf buf' 0 e t → (buf' ≡ over t buf) × (e ≡ length t)
unfolding written over
wrote_over {buf} t w =
    let z : 0 + length t ≡ length t = omega arith in
    (w.text ∙ ap (λ (k : ℕ). t ++ drop k buf) z, w.ends ∙ z)

pub over_wrote : (t buf : List ℕ) → Wrote buf (over t buf) 0 (length t) t
unfolding over
over_wrote t buf = wrote_front t buf

-- and stands in front of what is there then
module _ {t buf buf' : List ℕ} {e : ℕ} (w : Wrote buf buf' 0 e t) where
  pub front_fits : e ≤ length buf'
  unfolding over
  front_fits =
      let o = wrote_over t w in
      omega (arith, o.1, ap length o.0 ∙ length-append t (drop (length t) buf))

  pub front_is : take e buf' ≡ t
  unfolding over
  front_is =
      let o = wrote_over t w in
      ap (take e) o.0 ∙ take_at t (drop (length t) buf) e (sym o.1)

-- a list of the same length is replaced whole
pub over_whole : (t l : List ℕ) → length l ≡ length t → over t l ≡ t
unfolding over
over_whole t l e = let h : length l ≤ length t = omega arith in rw (drop_of_length-le l h, append-nil)

-- a part that was lent and is put back is written at its place
pub put_written : {A : Type 0} (l : List A) (at k : ℕ) (part : List A) → length part ≡ k → put_mid at k l part ≡ written l at part
unfolding written
put_written {A = A} l at k part e =
    sym (append_assoc (take at l) part (drop k (drop at l)))
    ∙ ap (λ (r : List A). take at l ++ part ++ r) (drop-drop _ at l ∙ ap (λ (i : ℕ). drop (at + i) l) (sym e))

pub wrote_part : {A : Type 0} (l : List A) (at e : ℕ) (part : List A) → at ≤ e → length part ≡ e - at → Wrote l (put_mid at (e - at) l part) at e part
wrote_part l at e part h k = record { ends = omega arith; text = put_written _ at (e - at) part k }

-- ---- a text that is written piece by piece: what is written, and what is left, are the whole
pub record Left {A : Type 0} (buf buf' : List A) (at pos : ℕ) (whole left : List A) : Type 0 where
  pub room : at + length whole ≤ length buf
  pub done : List A
  pub wrote : Wrote buf buf' at pos done
  pub all : done ++ left ≡ whole

pub left_all : {A : Type 0} {buf : List A} {at : ℕ} {whole : List A} → at + length whole ≤ length buf → Left buf buf at at whole whole
left_all {buf = buf} {at} room = record { room = room; done = []; wrote = wrote_none _ at; all = refl }

module _ {A : Type 0} {buf buf' : List A} {at pos : ℕ} {whole : List A} where
  module _ {left : List A} (l : Left buf buf' at pos whole left) where
    left_part : at + length l.done + length left ≤ length buf
    left_part = omega (arith, ap length (sym l.all) ∙ length-append l.done _, l.room)

    pub left_length : length buf' ≡ length buf
    left_length = wrote_length (omega (arith, left_part)) l.wrote

    pub left_room : pos + length left ≤ length buf'
    left_room = wrote_room left left_part l.wrote

  -- there is room for a piece
  pub left_fits : (t left : List A) → Left buf buf' at pos whole (t ++ left) → pos + length t ≤ length buf'
  left_fits t left l = omega (arith, left_room l, length-append t left)

  -- a piece
  pub left_more : {t left buf'' : List A} {pos' : ℕ} → Left buf buf' at pos whole (t ++ left) → Wrote buf' buf'' pos pos' t
      → Left buf buf'' at pos' whole left
  left_more {t = t} {left = left} l w = record {
    room = l.room;
    done = l.done ++ t;
    wrote = wrote_then (omega (arith, left_part l, length-append t left)) l.wrote w;
    all = append_assoc l.done _ _ ∙ l.all;
  }

  pub left_none : Left buf buf' at pos whole [] → Wrote buf buf' at pos whole
  left_none l = rw (sym (append-nil l.done) ∙ l.all) at l.wrote
