use mathlib.Core.Path.{sym, ap, ◌∙◌}
use mathlib.Core.Logic.{⊎_elim}
use native.Mathlib.Omega.{arith}
use Rattle.text_reading.specs.Scan.{found_numbers}
use Rattle.text_reading.proofs.Scanning.{has_within}
use Rattle.text_reading.proofs.Shapes.{few, word_within, no_word, no_numbers, no_end, whole_line}
use Rattle.text_reading.proofs.Shape.parse.Goals as goal

pub returns-then-not-has_word : goal.returns-then-not-has_word
returns-then-not-has_word c = no_word _ _ _ c.requires c.args.text.now c.args.at (sym c.if-not-has_word.ensures)

pub overflow_add-at : goal.overflow_add-at
overflow_add-at c =
    ⊎_elim (λ e. omega arith) (λ l. omega arith) (word_within c.args.self.now.word.now c.args.text.now c.args.at (sym c.if-not-has_word.ensures))

pub numbers_at-requires : goal.numbers_at-requires
numbers_at-requires c = few _ _ _ c.requires

pub returns-in_err-numbers : goal.returns-in_err-numbers
returns-in_err-numbers c =
    ap (found_numbers _ _) c.from_residual.ensures
    ∙ no_numbers _ _ _ c.requires _ _ (sym c.if-not-has_word.ensures) (sym c.in_err-numbers.ensures)

pub returns-then-not-has_byte : goal.returns-then-not-has_byte
returns-then-not-has_byte c =
    no_end _ _ _ c.requires _ _ (sym c.if-not-has_word.ensures) _ (sym c.in_ok-numbers.ensures) (sym c.if-not-has_byte.ensures)

pub overflow_add-result : goal.overflow_add-result
overflow_add-result c = omega (arith, has_within _ _ _ (sym c.if-not-has_byte.ensures))

pub returns : goal.returns
returns c =
    whole_line _ _ _ c.requires _ _ (sym c.if-not-has_word.ensures) _ (sym c.in_ok-numbers.ensures) (sym c.if-not-has_byte.ensures)
