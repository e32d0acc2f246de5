use Rattle.std.proofs.Common.{◌<◌, take}
use Rattle.test_scripts.specs.Sums.{SumsTo}
use Rattle.test_scripts.proofs.checksum.Given as goal

abbrev pub invariant-loop-entry : goal.invariant-loop-entry
invariant-loop-entry g l = (l.sum < 1000000007) × SumsTo g.T.Into.converts (take l.entry-index l.list) l.sum
