-- The first line's tests.
-- Assumes nothing.
use mathlib.Core.Path.{◌≡◌, sym}
use mathlib.Core.Bool.{true, false, or-true}
use mathlib.Core.List.{List}
use mathlib.Core.Option.{Option, none as missing, some}
use Prim.Native.Nat.{ℕ, ◌+◌, ◌*◌, ◌≤◌, ◌<◌}
use borrow.Author.Tests.{lt-ltb, le-ltb}
use lib.Dec.{ltb}
use Rattle.model.specs.Answers.{refused, answered}
use Rattle.model.specs.Survey.{outside, short_starts}
use Rattle.model.specs.Reading.{limits_of, counts_of}
use Rattle.model.proofs.Links.{first_taken}
use Rattle.model.proofs.Acceptance.{in_range}

-- what the limits make of a first line's counts, by the tests that they pass
module _ (N M p q n m : ℕ) (rest : List ℕ) where
  pub no_node : n < 1 → refused 2 ≡ limits_of N M p q (n, m, rest)
  unfolding limits_of
  no_node k = rw (lt-ltb n 1 k)

  pub many_nodes : N < n → refused 2 ≡ limits_of N M p q (n, m, rest)
  unfolding limits_of
  many_nodes k = rw (lt-ltb N n k, or-true (ltb n 1))

  pub many_links : 1 ≤ n → n ≤ N → M < m → refused 3 ≡ limits_of N M p q (n, m, rest)
  unfolding limits_of
  many_links h k j = rw (in_range N n h k, lt-ltb M m j)

  module _ (some_node : 1 ≤ n) (size : n ≤ N) (few : m ≤ M) where
    sized : outside N n ≡ false
    sized = in_range N n some_node size

    pub starts_short : short_starts n p ≡ true → refused 8 ≡ limits_of N M p q (n, m, rest)
    unfolding limits_of
    starts_short j = rw (sized, le-ltb M m few, j)

    pub neighbours_short : q < 2 * m → refused 8 ≡ limits_of N M p q (n, m, rest)
    unfolding limits_of
    neighbours_short j = rw (sized, le-ltb M m few, lt-ltb q (2 * m) j, or-true (ltb p (n + 1)))

    pub counted : n + 1 ≤ p → 2 * m ≤ q → answered (n, m, rest) ≡ limits_of N M p q (n, m, rest)
    unfolding counts_of
    counted r j =
        sym (first_taken N M p q (n, m, rest)
        (record { some_node = some_node; size = size; few = few; room = r; list_room = j }))

-- the first line
module _ (N M p q : ℕ) {o : Option (ℕ × ℕ × List ℕ)} where
  pub counts_malformed : o ≡ missing → refused 1 ≡ counts_of N M p q o
  unfolding counts_of
  counts_malformed l = rw l

  pub counts_read : {f : ℕ × ℕ × List ℕ} → o ≡ some f → limits_of N M p q f ≡ counts_of N M p q o
  unfolding counts_of
  counts_read l = rw l
