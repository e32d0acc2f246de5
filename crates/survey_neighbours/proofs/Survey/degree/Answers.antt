use mathlib.Core.Path.{sym}
use Rattle.survey_neighbours.proofs.RowLaws.{own_length, rows_of}
use Rattle.survey_neighbours.proofs.Survey.degree.Goals as goal

pub returns : goal.returns
returns c = sym (own_length _ _ _ (rows_of c.args.self.now.accepted) _ c.requires)
