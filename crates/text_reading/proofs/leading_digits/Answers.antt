use mathlib.Core.Path.{sym, ◌∙◌}
use Rattle.model.specs.Numbers.{is_digit}
use Rattle.text_reading.proofs.Runs.{read_none, read_next, read_stop, read_end}
use Rattle.text_reading.proofs.leading_digits.Goals as goal

pub loop-count-init : goal.loop-count-init
loop-count-init c = read_none _

pub returns-then-not-is_ascii_digit : goal.returns-then-not-is_ascii_digit
unfolding is_digit
returns-then-not-is_ascii_digit c =
    read_stop c.loop-count.invariant c.loop-count-test.true (sym c.is_ascii_digit.ensures.value ∙ c.if-not-is_ascii_digit.true)

pub loop-count-preserved : goal.loop-count-preserved
unfolding is_digit
loop-count-preserved c =
    read_next c.loop-count.invariant c.loop-count-test.true (sym c.is_ascii_digit.ensures.value ∙ c.if-not-is_ascii_digit.false)

pub returns : goal.returns
returns c = read_end c.loop-count.invariant c.loop-count-test.false
