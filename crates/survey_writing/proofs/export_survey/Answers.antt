use Rattle.model.specs.Dimacs.{exporting, ExportRight}
use Rattle.model.proofs.Outcomes.{promised}
use Rattle.model.proofs.Dimacs.{export_right}
use Rattle.survey_writing.proofs.LineLaws.{file_is}
use Rattle.survey_writing.proofs.export_survey.Goals as goal

pub returns-clause-buffer_after : goal.returns-clause-buffer_after
unfolding exporting
returns-clause-buffer_after c = (promised (ExportRight _ _ _) (export_right _ _ _ _) (rw (file_is _ _ _) at c.write_as.ensures)).0

pub returns-clause-export_right : goal.returns-clause-export_right
unfolding exporting
returns-clause-export_right c = (promised (ExportRight _ _ _) (export_right _ _ _ _) (rw (file_is _ _ _) at c.write_as.ensures)).1
