use Prim.Native.Nat.{◌-◌}
use lib.ListN.{length}
use Rattle.survey_stops.proofs.KeptLaws.{Passing}
use Rattle.survey_stops.proofs.kept_line.Given as goal

abbrev pub invariant-loop-left : goal.invariant-loop-left
invariant-loop-left l = Passing l.text l.k l.line l.left l.at

abbrev pub decreases-loop-left : goal.decreases-loop-left
decreases-loop-left l = length l.text - l.at
