-- A length that no listing exceeds.
-- Assumes nothing.
use Rattle.std.specs.Prelude.{ℕ, ◌+◌, ◌*◌}

-- no listing is longer: a first line of at most 10 bytes, and a line of at most 18 for each pair of 128 nodes
abbrev pub most_listing : ℕ
most_listing = 10 + 9 * (128 * 127)
