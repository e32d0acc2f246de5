use Rattle.std.proofs.Common.{◌≡◌, ℕ, ◌<◌, ◌≤◌, ◌-◌, ◌^◌, get_or, bit_and}
use Rattle.search_source_sets.proofs.Joining.{Found}
use Rattle.search_source_sets.proofs.remove_row.Given as goal

abbrev pub invariant-loop-i : goal.invariant-loop-i
invariant-loop-i l = record {
  done : (k : ℕ) → k < l.i → get_or l.sum k 0 ≡ bit_and (get_or l.initial.sum k 0) ((2 ^ 16 - 1) - get_or l.row k 0);
  rest : (k : ℕ) → l.i ≤ k → get_or l.sum k 0 ≡ get_or l.initial.sum k 0;
  small : (k : ℕ) → k < l.i → get_or l.row k 0 < 2 ^ 16;
  covered : Found l.sum l.found l.i;
}
