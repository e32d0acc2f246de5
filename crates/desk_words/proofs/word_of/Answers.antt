use mathlib.Core.Path.{sym}
use Rattle.model.specs.Basics.{bytes}
use Rattle.desk_words.specs.Words.{word_of}
use Rattle.desk_words.proofs.WordLaws.{number_whole, number_not}
use Rattle.desk_words.proofs.word_of.Goals as goal

pub returns-in-Some : goal.returns-in-Some
unfolding word_of bytes
returns-in-Some c =
    let whole = number_whole _ c.parse_number.ensures c.in-Some.is c.if-number-word.true in
    rw (sym c.is_word.ensures, c.if-is_word.false, whole.0, whole.1)

pub returns-in_default : goal.returns-in_default
unfolding word_of bytes
returns-in_default c =
    let part = number_not _ c.parse_number.ensures (λ x e d. c.if-number-word.false (cc)) in
    rw (sym c.is_word.ensures, c.if-is_word.false, part)

pub returns-in_default-2 : goal.returns-in_default-2
unfolding word_of bytes
returns-in_default-2 c =
    let none = number_not _ c.parse_number.ensures (λ x e d. absurd (cc)) in
    rw (sym c.is_word.ensures, c.if-is_word.false, none)

pub returns-then-is_word : goal.returns-then-is_word
unfolding word_of bytes
returns-then-is_word c = rw (sym c.is_word.ensures, c.if-is_word.true)
