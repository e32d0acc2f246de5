use mathlib.Core.Path.{◌∙◌}
use Prim.Native.Nat.{◌≤◌}
use native.Mathlib.Omega.{arith}
use Rattle.survey_stops.proofs.StopLaws.{head_refused, head_within, head_read}
use Rattle.survey_stops.proofs.importing_stops.Goals as goal

pub returns-in_default : goal.returns-in_default
returns-in_default c =
    let place = head_refused _ _ c.head_line.ensures c.in_default.is in
    (c.kept_line.ensures ∙ place.0, place.1)

pub overflow_add-taken : goal.overflow_add-taken
overflow_add-taken c =
    let few : c.edges_taken-taken.result ≤ 16384 = let counts = head_within _ _ c.head_line.ensures c.in-Ok.is in
    omega (arith, counts.few, c.edges_taken-taken.ensures.few) in
    omega (arith, few)

pub kept_line-requires-2 : goal.kept_line-requires-2
kept_line-requires-2 c =
    let few : c.edges_taken-taken.result ≤ 16384 = let counts = head_within _ _ c.head_line.ensures c.in-Ok.is in
    omega (arith, counts.few, c.edges_taken-taken.ensures.few) in
    omega (arith, few)

pub returns : goal.returns
returns c =
    let place = head_read _ _ c.head_line.ensures c.in-Ok.is c.edges_taken-taken.ensures in
    (c.kept_line-2.ensures ∙ place.0, place.1)
