-- The graph of an accepted survey.
-- Assumes nothing.
use Rattle.model.specs.Survey.{Graph, neighbours_of}
use Rattle.survey_neighbours.specs.declared.Survey.{Survey}

abbrev pub graph : Survey → Graph
graph survey = neighbours_of survey.starts.now survey.neighbours.now
