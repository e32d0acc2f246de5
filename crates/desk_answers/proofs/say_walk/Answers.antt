use mathlib.Core.Path.{refl}
use Prim.Native.Nat.{ℕ}
use native.Mathlib.Omega.{arith}
use borrow.Author.Rules.{rules}
use lib.ListN.{length-replicate}
use Rattle.text_writing.specs.Writes.{Writes}
use Rattle.table_building.proofs.WholeTables.{tables_whole}
use Rattle.desk_answers.specs.Said.{walked_said, walk_said}
use Rattle.desk_answers.proofs.SaidLaws.{walk_is, front_within, writes_same}
use Rattle.desk_answers.proofs.say_walk.Goals.{in-Ok, in-Err}
use Rattle.desk_answers.proofs.say_walk.Goals as goal

pub write_walked-requires-clause-report_in_bounds : goal.write_walked-requires-clause-report_in_bounds
write_walked-requires-clause-report_in_bounds c some =
    let within = front_within _ _ (c.in-Ok.ensures.walk_sound _ refl some).count in
    omega (arith, within, length-replicate {A = ℕ} 2048 0)

pub returns : goal.returns
unfolding walked_said
returns c =
    let lent = c.requires.tables in
    let own = tables_whole _ _ _ _ _ _ _ c.build_tables.ensures lent.0 lent.1 lent.2 in
    let size = length-replicate {A = ℕ} 2048 0 in
    let survey = c.args.survey.now in
    let said : Writes _ c.match-write_walk.writer
    (walk_said survey.n c.args.t c.args.s survey.starts.now survey.neighbours.now c.args.a c.args.b) =
    elim c.match-write_walk.branch [
      | in-Ok w ↦ writes_same w.writer-is (walk_is _ _ _ _ _ own _ _ size w.in-Ok.ensures.walk_after) w.write_walked.ensures
      | in-Err w ↦
          writes_same w.writer-is (walk_is _ _ _ _ _ own _ _ size w.in-Err.ensures.walk_after)
          (rw w.far_node.ensures at w.write_node_refused.ensures.wrote)
    ] in
    search rules
