use Rattle.std.proofs.Common.{arith, ◌∙◌}
use Rattle.model.specs.Basics.{from, up_to, first_of}
use Rattle.model.specs.Threshold.{bit_length}
use Rattle.base_threshold.specs.declared.TheConstants.{THRESHOLD}
use Rattle.base_threshold.proofs.Rule.{table_holds}
use Rattle.base_threshold.proofs.threshold_at.Goals as goal

pub returns : goal.returns
unfolding bit_length first_of up_to from
returns c = c.from.ensures ∙ table_holds THRESHOLD tt _ (omega arith) (omega arith)
