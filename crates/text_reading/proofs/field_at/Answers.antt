use mathlib.Core.Path.{sym, ap, ◌∙◌}
use native.Mathlib.Omega.{arith}
use Rattle.text_reading.specs.Scan.{found_number}
use Rattle.text_reading.proofs.Scanning.{has_within}
use Rattle.text_reading.proofs.Shapes.{field_missing, field_found}
use Rattle.text_reading.proofs.field_at.Goals as goal

pub returns-then-not-has_byte : goal.returns-then-not-has_byte
returns-then-not-has_byte c = field_missing _ _ _ (sym c.if-not-has_byte.ensures)

pub overflow_add-at : goal.overflow_add-at
overflow_add-at c = omega (arith, has_within _ _ _ (sym c.if-not-has_byte.ensures))

pub returns : goal.returns
returns c = ap (found_number _) c.parse_number.ensures ∙ field_found _ _ _ (sym c.if-not-has_byte.ensures)
