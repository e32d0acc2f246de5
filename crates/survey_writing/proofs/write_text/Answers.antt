use mathlib.Core.List.{List, ◌++◌}
use Prim.Native.Nat.{ℕ, ◌+◌}
use native.Mathlib.Omega.{arith}
use Rattle.survey_neighbours.specs.SurveyGraph.{graph}
use Rattle.model.specs.Survey.{neighbours_of}
use Rattle.text_writing.specs.declared.Writer.{Writer}
use Rattle.text_writing.specs.Writes.{HasRoom}
use Rattle.text_writing.proofs.Writing.{room_front, room_rest, writes_append, remains_all, remains_fits, remains_more, remains_none}
use Rattle.survey_writing.specs.LinkLines.{lines_of, text_as}
use Rattle.survey_writing.proofs.LineLaws.{Line, rows_from, head, rows_next, rows_end, text_is}
use Rattle.survey_writing.proofs.write_text.Goals as goal

-- where the text has room, the first line and the rows have
room : (first line : Line) (n : ℕ) (starts neighbours : List ℕ) (w : Writer) → HasRoom w (text_as first line n starts neighbours)
    → HasRoom w (head first n starts ++ rows_from line n (neighbours_of starts neighbours) 0)
room first line n starts neighbours w h = rw (text_is first line n starts neighbours) at h

pub write_first-requires : goal.write_first-requires
write_first-requires g c =
    let survey = c.args.survey.now in
    room_front c.args.writer.now (head g.F.Form.first_line survey.n survey.starts.now) _
    (room g.F.Form.first_line g.F.Form.link_line survey.n survey.starts.now survey.neighbours.now c.args.writer.now c.requires)

pub loop-v-init : goal.loop-v-init
loop-v-init g c =
    let survey = c.args.survey.now in
    let all = room g.F.Form.first_line g.F.Form.link_line survey.n survey.starts.now survey.neighbours.now c.args.writer.now c.requires in
    remains_all (room_rest (head g.F.Form.first_line survey.n survey.starts.now) _ all c.write_first.ensures)

pub write_row-requires : goal.write_row-requires
write_row-requires g c =
    let lines = lines_of g.F.Form.link_line c.loop-v.v (graph c.args.survey.now c.loop-v.v) in
    let next = rw (rows_next g.F.Form.link_line _ _ _ c.loop-v-test.true) at c.loop-v.invariant in
    (omega (arith, c.args.survey.now.accepted.size), rw c.own.ensures (remains_fits lines _ next))

pub loop-v-preserved : goal.loop-v-preserved
loop-v-preserved g c =
    let rows = rows_from g.F.Form.link_line c.args.survey.now.n (graph c.args.survey.now) in
    let next = rw (rows_next g.F.Form.link_line _ _ _ c.loop-v-test.true) at c.loop-v.invariant in
    remains_more {rest = rows (c.loop-v.v + 1)} next (rw c.own.ensures at c.write_row.ensures)

pub returns : goal.returns
returns g c =
    let survey = c.args.survey.now in
    let all = room g.F.Form.first_line g.F.Form.link_line survey.n survey.starts.now survey.neighbours.now c.args.writer.now c.requires in
    let behind = remains_none (rw (rows_end g.F.Form.link_line _ _ _ c.loop-v-test.false) at c.loop-v.invariant) in
    rw (text_is g.F.Form.first_line g.F.Form.link_line survey.n survey.starts.now survey.neighbours.now)
    (writes_append (head g.F.Form.first_line survey.n survey.starts.now) _ all c.write_first.ensures behind)
