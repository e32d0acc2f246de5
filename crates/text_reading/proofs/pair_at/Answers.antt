use mathlib.Core.Path.{ap, ◌∙◌}
use Rattle.text_reading.specs.Scan.{found}
use Rattle.text_reading.proofs.Shapes.{pair_line}
use Rattle.text_reading.proofs.pair_at.Goals as goal

pub returns-in_err-a : goal.returns-in_err-a
returns-in_err-a c =
    let line = c.in_err-a.ensures in
    ap (found _) c.from_residual.ensures ∙ pair_line _ _ _ _ (rw (c.at.ensures.0, c.at.ensures.1) at line)

pub returns : goal.returns
returns c =
    let line = c.in_ok-a.ensures in
    pair_line _ _ _ _ (rw (c.at.ensures.0, c.at.ensures.1) at line)
