use native.Mathlib.Omega.{arith}
use Rattle.text_writing.proofs.Writing.{remains_all, remains_fits, remains_more, remains_none}
use Rattle.survey_writing.proofs.LineLaws.{line_added, line_passed, line_end}
use Rattle.survey_writing.proofs.write_row.Goals.{then-b-a, else-b-a}
use Rattle.survey_writing.proofs.write_row.Goals as goal

pub loop-b-init : goal.loop-b-init
loop-b-init g c = remains_all c.requires.1

pub write_link-requires : goal.write_link-requires
write_link-requires g c =
    let line = g.F.Form.link_line in
    let next = rw (line_added line _ _ _ c.loop-b-test.true c.from-b.ensures c.if-b-a.true) at c.loop-b.invariant in
    (c.requires.0, omega (arith, c.from-b.ensures, c.type_inv.row c.loop-b.b-index), remains_fits (line c.args.a c.from-b.result) _ next)

pub loop-b-preserved : goal.loop-b-preserved
loop-b-preserved g c = elim c.if-b-a.branch [
  | then-b-a w ↦
      let next = rw (line_added g.F.Form.link_line _ _ _ c.loop-b-test.true c.from-b.ensures w.if-b-a.true) at c.loop-b.invariant in
      rw (w.writer-is) (remains_more next w.write_link.ensures)
  | else-b-a w ↦
      rw (w.writer-is)
      (rw (line_passed g.F.Form.link_line _ _ _ c.loop-b-test.true c.from-b.ensures w.if-b-a.false) at c.loop-b.invariant)
]

pub returns : goal.returns
returns g c = remains_none (rw (line_end g.F.Form.link_line _ _ _ c.loop-b-test.false) at c.loop-b.invariant)
