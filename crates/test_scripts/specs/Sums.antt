-- Sums over lists, and an entry replaced.
-- Assumes nothing.
use Rattle.std.specs.Prelude.{◌≡◌, List, ℕ, ◌+◌, ◌*◌, ◌%◌, ltb, length, set}
use Rattle.std.specs.Prelude.{if◌then◌else◌}
use Rattle.std.specs.List.{AllZip, fold}

-- a sum that depends on every entry and its place
abbrev pub checksum : List ℕ → ℕ
checksum l = fold (λ s x. (s * 31 + x) % 1000000007) 0 l

-- that of a list of any type, each entry as the number that it is converted to
abbrev pub SumsTo : {A : Type 0} → (converts : A → ℕ → Type 0) → List A → ℕ → Type 0
SumsTo converts l sum = (numbers : List ℕ) × AllZip converts l numbers × (sum ≡ checksum numbers)

-- entry i becomes x, if there is an entry i
abbrev pub replaced : {A : Type 0} → List A → ℕ → A → List A
replaced l i x = if ltb i (length l) then set l i x else l
