-- Laws of texts that a writer writes.
-- Assumes nothing.
use mathlib.Core.Path.{◌≡◌, refl, sym, ◌∙◌}
use mathlib.Core.List.{List, [], ◌++◌, append_assoc, append-nil}
use Prim.Native.Nat.{ℕ, ◌+◌, ◌≤◌}
use native.Mathlib.Omega.{arith}
use lib.ListN.{length, length-append}
use Rattle.base_lists.proofs.Written.{wrote_none, wrote_then, wrote_length, wrote_room}
use Rattle.text_writing.specs.declared.Writer.{Writer}
use Rattle.text_writing.specs.Writes.{HasRoom, Writes}

-- nothing
pub writes_none : (w : Writer) → Writes w w []
writes_none w = record { wrote = wrote_none _ _; same = refl }

-- the front of a text has room where the text has
pub room_front : (w : Writer) (t u : List ℕ) → HasRoom w (t ++ u) → HasRoom w t
room_front w t u h = omega (arith, h, length-append t u)

module _ {old mid : Writer} (t u : List ℕ) (room : HasRoom old (t ++ u)) (p : Writes old mid t) where
  room_both : old.at + length t + length u ≤ length old.buf.now
  room_both = omega (arith, room, length-append t u)

  -- what is left behind a text has room for the rest
  pub room_rest : HasRoom mid u
  room_rest = wrote_room u room_both p.wrote

  -- a text, and a text behind it
  pub writes_append : {new : Writer} → Writes mid new u → Writes old new (t ++ u)
  writes_append q = record { wrote = wrote_then room_both p.wrote q.wrote; same = q.same ∙ p.same }

module _ {old new : Writer} {t : List ℕ} (w : Writes old new t) where
  -- the buffer keeps its length
  pub writes_length : HasRoom old t → length new.buf.now ≡ length old.buf.now
  writes_length h = wrote_length h w.wrote

  -- and what was left behind the text is left
  pub room_after : (k : ℕ) → old.at + length t + k ≤ length old.buf.now → new.at + k ≤ length new.buf.now
  room_after k h = omega (arith, writes_length (omega arith), w.wrote.ends)

-- ---- a text that is written piece by piece: what is written, and what remains, are the whole
pub record Remains (old new : Writer) (whole rest : List ℕ) : Type 0 where
  pub room : HasRoom old whole
  pub done : List ℕ
  pub writes : Writes old new done
  pub all : done ++ rest ≡ whole

pub remains_all : {w : Writer} {whole : List ℕ} → HasRoom w whole → Remains w w whole whole
remains_all {w} room = record { room = room; done = []; writes = writes_none w; all = refl }

module _ {old new : Writer} {whole : List ℕ} where
  -- there is room for what remains
  pub remains_room : (rest : List ℕ) → Remains old new whole rest → HasRoom new rest
  remains_room rest l = room_rest l.done rest (rw (sym l.all) at l.room) l.writes

  -- and for a piece
  pub remains_fits : (t rest : List ℕ) → Remains old new whole (t ++ rest) → HasRoom new t
  remains_fits t rest l = room_front new t rest (remains_room (t ++ rest) l)

  -- a piece
  pub remains_more : {t rest : List ℕ} {after : Writer} → Remains old new whole (t ++ rest) → Writes new after t → Remains old after whole rest
  remains_more {t = t} {rest = rest} l w = record {
    room = l.room;
    done = l.done ++ t;
    writes = writes_append l.done t (room_front old (l.done ++ t) rest (rw (sym (append_assoc l.done t rest ∙ l.all)) at l.room)) l.writes w;
    all = append_assoc l.done _ _ ∙ l.all;
  }

  pub remains_none : Remains old new whole [] → Writes old new whole
  remains_none l = rw (sym (append-nil l.done) ∙ l.all) at l.writes
