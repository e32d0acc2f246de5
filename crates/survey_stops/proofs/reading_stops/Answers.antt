use native.Mathlib.Omega.{arith}
use borrow.Author.Rules.{rules}
use Rattle.survey_stops.proofs.StopLaws.{first_refused, first_within, first_read}
use Rattle.survey_stops.proofs.reading_stops.Goals as goal

pub returns-in_default : goal.returns-in_default
returns-in_default c = first_refused _ _ _ _ c.first_line.ensures c.in_default.is

pub links_taken-taken-requires : goal.links_taken-taken-requires
links_taken-taken-requires c =
    let counts = first_within _ _ _ _ c.first_line.ensures c.in-Ok.is in
    (omega (arith, counts.size), search rules)

pub overflow_add-result : goal.overflow_add-result
overflow_add-result c =
    let counts = first_within _ _ _ _ c.first_line.ensures c.in-Ok.is in
    omega (arith, counts.few, c.links_taken-taken.ensures.few)

pub returns : goal.returns
returns c = first_read _ _ _ _ c.first_line.ensures c.in-Ok.is c.links_taken-taken.ensures
