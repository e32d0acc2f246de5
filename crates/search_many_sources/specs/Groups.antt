-- A group's nodes and links.
-- Assumes nothing.
use Rattle.std.specs.Prelude.{Bool, ℕ}
use Rattle.model.specs.Survey.{Graph}
use Rattle.base_nodeset.specs.NodeSet.{member}
use Rattle.survey_neighbours.specs.SurveyGraph.{graph}
use Rattle.search_many_sources.specs.declared.Group.{Group}
use Rattle.search_many_sources.specs.Levels.{is_source}

-- how many nodes its survey has
abbrev pub nodes : Group → ℕ
nodes g = g.survey.n

abbrev pub allowed : Group → ℕ → Bool
allowed g = member g.allowed.now

abbrev pub links : Group → Graph
links g = graph g.survey

-- its sources
abbrev pub sources : Group → ℕ → Bool
sources g = is_source g.base (member g.allowed.now)
