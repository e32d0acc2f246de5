use Rattle.survey_reading.proofs.ReadLaws.{read_is}
use Rattle.survey_reading.proofs.read_survey.Goals as goal

pub returns-clause-neighbours_after : goal.returns-clause-neighbours_after
returns-clause-neighbours_after c = (read_is _ _ _ c.read_within.ensures).0

pub returns-clause-read_right : goal.returns-clause-read_right
returns-clause-read_right c = (read_is _ _ _ c.read_within.ensures).1
