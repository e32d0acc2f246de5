-- The lines of a script, and what its letters read.
-- Assumes nothing.
use Rattle.std.specs.Prelude.{◌≡◌, List, [], ◌∷◌, ℕ, eqb, get_or, drop, length}
use Rattle.std.specs.Prelude.{Option as Found, Some, None}
use Rattle.std.proofs.Math.Option.{Option, none as missing, some, map}
use Rattle.std.specs.Prelude.{if◌then◌else◌}
use Rattle.model.specs.Reading.{AfterReading, reading}
use Rattle.model.specs.Dimacs.{importing}
use Rattle.text_reading.specs.Scan.{pair_by}
use Rattle.test_scripts.specs.declared.Command.{Command}

-- a line with its letter
abbrev pub lettered : ℕ → Option (ℕ × ℕ × List ℕ) → Option (ℕ × ℕ × ℕ × List ℕ)
lettered letter o = map (λ l. (letter, l.0, l.1, l.2)) o

-- the line at a place, whatever its letter, but for byte 0: letter, numbers, and what follows
abbrev pub line_at : List ℕ → ℕ → Option (ℕ × ℕ × ℕ × List ℕ)
line_at s at = if eqb (get_or s at 0) 0 then missing else lettered (get_or s at 0) (pair_by (get_or s at 0 ∷ []) 44 (drop at s))

-- a command as such a line
abbrev pub command_line : List ℕ → Found Command → Option (ℕ × ℕ × ℕ × List ℕ)
command_line s (Some c) = some (c.letter, c.x, c.y, drop c.next s)
command_line s None = missing

-- the command is the line that was found, or zeros and the end of the script where none was
abbrev pub IsLine : List ℕ → Option (ℕ × ℕ × ℕ × List ℕ) → Command → Type 0
IsLine s (some l) c = command_line s (Some c) ≡ some l
IsLine s missing c = (c.letter ≡ 0) × (c.x ≡ 0) × (c.y ≡ 0) × (c.next ≡ length s)

-- what the letter I reads is a file, and what another one does is a survey text
abbrev pub read_by : ℕ → (text : List ℕ) (p q : ℕ) → AfterReading
read_by letter text p q = if eqb letter 73 then importing text p q else reading text p q
