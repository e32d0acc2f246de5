use mathlib.Core.Path.{◌∙◌}
use native.Mathlib.Omega.{arith}
use Rattle.desk_answers.proofs.SaidLaws.{high_counted}
use Rattle.desk_answers.proofs.high_count.Goals as goal

pub returns : goal.returns
returns c = c.count.ensures ∙ high_counted _ _ _ c.args.survey.now.accepted.size _ (omega arith) c.high_nodes.ensures
