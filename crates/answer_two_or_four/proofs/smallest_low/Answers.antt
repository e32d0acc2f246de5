use mathlib.Core.Path.{refl, sym, ap, ◌∙◌}
use native.Mathlib.Omega.{arith}
use borrow.Author.Rules.{rules}
use Rattle.std.proofs.lemmas.Iterator.{YieldsList-from_range}
use Rattle.std.proofs.lemmas.Iterator.Adapters.{option_map_id}
use Rattle.std.proofs.lemmas.Iterator.Search.{find_from_yields_List}
use Rattle.std.specs.List.{find}
use Rattle.model.specs.Hubs.{is_low}
use Rattle.survey_neighbours.specs.SurveyGraph.{graph}
use Rattle.answer_two_or_four.proofs.Sources.{numbers_below, is_low_at}
use Rattle.answer_two_or_four.proofs.smallest_low.Goals as goal

pub returns : goal.returns
returns c =
    let low = is_low c.args.s (graph c.args.survey.now) in
    let at = is_low_at c.args.s (graph c.args.survey.now) in
    let nodes = YieldsList-from_range 0 c.args.survey.now.n c.args.survey.now.n refl (omega arith) in
    let found = find_from_yields_List low _ _ c.find.result c.find.ensures.ran nodes (λ x b q k. let low_is = at x in search rules) in
    sym (option_map_id c.find.result) ∙ found ∙ ap (find low) (numbers_below c.args.survey.now.n)
