use Rattle.model.specs.Writing.{writing}
use Rattle.model.specs.Demand.{WriteRight}
use Rattle.model.proofs.Outcomes.{promised}
use Rattle.model.proofs.ReadBack.{writing_right}
use Rattle.survey_writing.proofs.LineLaws.{survey_text_is}
use Rattle.survey_writing.proofs.write_survey.Goals as goal

pub returns-clause-buffer_after : goal.returns-clause-buffer_after
unfolding writing
returns-clause-buffer_after c = (promised (WriteRight _ _ _) (writing_right _ _ _ _) (rw (survey_text_is _ _ _) at c.write_as.ensures)).0

pub returns-clause-write_right : goal.returns-clause-write_right
unfolding writing
returns-clause-write_right c = (promised (WriteRight _ _ _) (writing_right _ _ _ _) (rw (survey_text_is _ _ _) at c.write_as.ensures)).1
