use mathlib.Core.Path.{sym, ◌∙◌}
use mathlib.Core.Logic.{⊎_elim}
use native.Mathlib.Omega.{arith}
use Rattle.text_reading.proofs.Scanning.{read_past, read_empty, read_long, read_zero, read_found}
use Rattle.text_reading.proofs.parse_number.Goals as goal
use Rattle.text_reading.proofs.parse_number.Goals.{else-digits-gt1-via-then-digits-gt1+else-has_byte, else-digits-gt1-via-else-digits-gt1}

pub returns-in_err-rest : goal.returns-in_err-rest
returns-in_err-rest c = c.from_residual.ensures ∙ read_past _ _ (⊎_elim (λ l. omega arith) (λ l. absurd (omega arith)) c.in_err-rest.ensures.lookup.0)

pub returns-then-digits-eq0 : goal.returns-then-digits-eq0
returns-then-digits-eq0 c = read_empty _ _ c.in_ok-rest.ensures.lookup.0.2 c.min.ensures c.leading_digits-digits.ensures c.if-digits-eq0.true

pub returns-then-digits-gt10 : goal.returns-then-digits-gt10
returns-then-digits-gt10 c = read_long _ _ c.in_ok-rest.ensures.lookup.0.2 c.min.ensures c.leading_digits-digits.ensures c.if-digits-gt10.true

pub returns-then-has_byte : goal.returns-then-has_byte
returns-then-has_byte c =
    read_zero _ _ c.in_ok-rest.ensures.lookup.0.2 c.min.ensures c.leading_digits-digits.ensures c.if-digits-gt1.true (sym c.if-has_byte.ensures)

pub returns : goal.returns
returns c =
    read_found _ _ c.in_ok-rest.ensures.lookup.0.2 c.min.ensures c.leading_digits-digits.ensures c.if-digits-eq0.false c.if-digits-gt10.false
    (λ l. elim c.else-digits-gt1.branch [
      | else-digits-gt1-via-then-digits-gt1+else-has_byte w ↦ sym w.if-has_byte.ensures
      | else-digits-gt1-via-else-digits-gt1 w ↦ absurd (omega (arith, l, w.if-digits-gt1.false))
    ])
