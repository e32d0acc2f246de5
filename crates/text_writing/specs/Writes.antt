-- What a text needs before it is written, and what writing it leaves.
use Rattle.std.specs.Prelude.{ℕ, ◌≡◌, ◌+◌, ◌≤◌, List, length}
use Rattle.base_lists.specs.Written.{Wrote}
use Rattle.text_writing.specs.declared.Writer.{Writer}

-- the buffer has room for the text behind what was written
abbrev pub HasRoom : Writer → List ℕ → Type 0
HasRoom w t = w.at + length t ≤ length w.buf.now

-- the text was written behind what was written before, into the same lent buffer
pub record Writes (old new : Writer) (t : List ℕ) : Type 0 where
  pub wrote : Wrote old.buf.now new.buf.now old.at new.at t
  pub same : new.buf.ghost_name ≡ old.buf.ghost_name
