use mathlib.Core.Path.{◌≡◌}
use Prim.Native.Nat.{◌-◌, ◌≤◌}
use lib.ListN.{drop}
use Rattle.text_reading.specs.Scan.{numbers_first}
use Rattle.text_reading.proofs.Shapes.{prepended, last_of}
use Rattle.text_reading.proofs.numbers_at.Given as goal

abbrev pub invariant-loop : goal.invariant-loop
invariant-loop l =
    let read = last_of l.counter l.numbers.third_last l.numbers.second_last l.numbers.last in
    let rest = numbers_first l.separator (l.count - l.counter) (drop l.numbers.end l.text) in
    (l.counter ≤ l.count) × (prepended read rest ≡ numbers_first l.separator l.count (drop l.at l.text))
