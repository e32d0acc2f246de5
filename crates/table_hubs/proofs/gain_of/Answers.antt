use mathlib.Core.Path.{◌∙◌}
use native.Mathlib.Omega.{arith}
use borrow.Author.Rules.{rules}
use Rattle.survey_neighbours.specs.SurveyGraph.{graph}
use Rattle.table_hubs.proofs.Sets.{gain_words, gain_few}
use Rattle.table_hubs.proofs.gain_of.Goals as goal

pub overflow_cast-result : goal.overflow_cast-result
overflow_cast-result c =
    let survey = c.args.survey.now in
    let counted = c.count.ensures ∙ gain_words survey.accepted _ c.requires _ c.args.uncovered.now (search rules) c.newly_covered.ensures in
    omega (arith, counted, gain_few survey.n (graph survey) c.args.uncovered.now c.args.v, survey.accepted.size)

pub returns : goal.returns
returns c =
    c.count.ensures ∙ gain_words c.args.survey.now.accepted _ c.requires _ _ (search rules) c.newly_covered.ensures
