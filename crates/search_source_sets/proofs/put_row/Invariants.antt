use Rattle.std.proofs.Common.{◌≡◌, ℕ, ◌<◌, get_or, length}
use Rattle.search_source_sets.proofs.put_row.Given as goal

abbrev pub invariant-loop-i : goal.invariant-loop-i
invariant-loop-i l = record {
  long : length l.to ≡ 16;
  done : (k : ℕ) → k < l.i → get_or l.to k 0 ≡ get_or l.row k 0;
}
