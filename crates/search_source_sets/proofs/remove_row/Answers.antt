use Rattle.std.proofs.Common.{rules, arith, ℕ, ◌<◌, ◌^◌, get_or}
use Rattle.model.proofs.Loops.{below_next}
use Rattle.std.proofs.lemmas.Grind.{common_steps}
use Rattle.search_source_sets.proofs.Joining.{found_more, removed}
use Rattle.search_source_sets.proofs.remove_row.Goals as goal

pub loop-i-preserved : goal.loop-i-preserved
loop-i-preserved c = record {
  done = grind (arith, common_steps);
  rest = grind (arith, common_steps);
  small = below_next (λ (k : ℕ). get_or c.args.row.now k 0 < 2 ^ 16) _ c.loop-i.invariant.small (search rules);
  covered = found_more _ _ _ _ (omega arith) c.loop-i.invariant.covered;
}

pub returns : goal.returns
returns c = removed _ _ _ _ _ c.loop-i-test.false c.loop-i.invariant.small c.loop-i.invariant.done c.loop-i.invariant.covered
