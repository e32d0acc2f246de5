use mathlib.Core.Path.{◌≡◌}
use Prim.Native.Nat.{◌-◌}
use lib.ListN.{length, drop}
use Rattle.model.specs.Dimacs.{uncommented}
use Rattle.survey_importing_lines.proofs.pass_comments.Given as goal

abbrev pub invariant-loop-end : goal.invariant-loop-end
invariant-loop-end l = uncommented (drop l.next l.text) ≡ uncommented (drop l.at l.text)

abbrev pub decreases-loop-end : goal.decreases-loop-end
decreases-loop-end l = length l.text - l.next
