use borrow.Author.Rules.{rules}
use Rattle.survey_neighbours.specs.SurveyGraph.{graph}
use Rattle.text_writing.specs.Writes.{Writes}
use Rattle.table_building.proofs.WholeTables.{tables_whole}
use Rattle.desk_answers.specs.Said.{asked_said, pair_said}
use Rattle.desk_answers.proofs.SaidLaws.{pair_is, writes_same}
use Rattle.desk_answers.proofs.say_pair.Goals.{in-Ok, in-Err}
use Rattle.desk_answers.proofs.say_pair.Goals as goal

pub returns : goal.returns
unfolding asked_said
returns c =
    let lent = c.requires.tables in
    let own = tables_whole _ _ _ _ _ _ _ c.build_tables.ensures lent.0 lent.1 lent.2 in
    let said : Writes _ c.match-ask.writer
    (pair_said c.args.survey.now.n c.args.s (graph c.args.survey.now) c.args.a c.args.b) =
    elim c.match-ask.branch [
      | in-Ok w ↦ writes_same w.writer-is (pair_is own _ _ w.in-Ok.ensures.result_value) w.write_pair.ensures.wrote
      | in-Err w ↦
          writes_same w.writer-is (pair_is own _ _ w.in-Err.ensures.result_value)
          (rw w.far_node.ensures at w.write_node_refused.ensures.wrote)
    ] in
    search rules
