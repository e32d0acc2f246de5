-- Rows of the report table.
-- Assumes nothing.
use Rattle.std.specs.Prelude.{List, [], ◌∷◌, map, ℕ, ◌+◌, min, length, get_or}
use Rattle.model.specs.Basics.{up_to, has}
use Rattle.std.specs.Prelude.{if◌then◌else◌}

-- each entry of the second row, or x + the entry of the first row if that is less
unfoldable pub relaxed : ℕ → List ℕ → List ℕ → List ℕ
relaxed x [] row = row
relaxed x (y ∷ other) [] = []
relaxed x (y ∷ other) (r ∷ row) = min (x + y) r ∷ relaxed x other row

-- each entry of the row, or 1 where its place is one of the list
unfoldable pub links_set : (own row : List ℕ) → List ℕ
links_set own row = map (λ b. if has b own then 1 else get_or row b 0) (up_to (length row))
