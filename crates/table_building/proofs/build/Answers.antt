use mathlib.Core.Path.{◌≡◌, sym, ◌∙◌}
use mathlib.Core.Bool.{false}
use Rattle.model.specs.Threshold.{bad_threshold}
use borrow.Author.Tests.{lt-ltb, le-ltb, ltb-false}
use Rattle.model.specs.Building.{building}
use Rattle.model.proofs.Acceptance.{size_bounds}
use Rattle.model.proofs.Threshold.{threshold_bound}
use Rattle.table_building.proofs.BuildingLaws.{Room, build_done}
use Rattle.table_building.proofs.build.Goals.{then-short_starts-via-then-short_starts, then-short_starts-via-else-short_starts+then-short_tables}
use Rattle.table_building.proofs.build.Goals.{then-short_starts-via-else-short_starts+else-short_tables+then-hubs-n, After-survey}
use Rattle.table_building.proofs.build.Goals as goal

pub returns-then-bad_size-clause-hubs_after : goal.returns-then-bad_size-clause-hubs_after
unfolding building
returns-then-bad_size-clause-hubs_after c = rw (← c.if-bad_size.ensures)

pub returns-then-bad_threshold-clause-hubs_after : goal.returns-then-bad_threshold-clause-hubs_after
unfolding building
returns-then-bad_threshold-clause-hubs_after c = rw (← c.if-bad_size.ensures, sym c.bad_threshold.ensures ∙ c.if-bad_threshold.true)

pub short_starts-requires : goal.short_starts-requires
short_starts-requires c = (size_bounds _ (sym c.if-bad_size.ensures)).1

pub short_tables-requires : goal.short_tables-requires
short_tables-requires c = (size_bounds _ (sym c.if-bad_size.ensures)).1

-- an `or` of tests ends where the first one holds
pub returns-then-short_starts-clause-hubs_after : goal.returns-then-short_starts-clause-hubs_after
unfolding building
returns-then-short_starts-clause-hubs_after c =
    let split : bad_threshold c.args.t ≡ false = sym c.bad_threshold.ensures ∙ c.if-bad_threshold.false in
    elim c.then-short_starts.branch [
      | then-short_starts-via-then-short_starts w ↦
          rw (← c.if-bad_size.ensures, split, ← w.if-short_starts.ensures)
      | then-short_starts-via-else-short_starts+then-short_tables w ↦
          rw (← c.if-bad_size.ensures, split, ← w.if-short_starts.ensures, ← w.if-short_tables.ensures)
      | then-short_starts-via-else-short_starts+else-short_tables+then-hubs-n w ↦
          rw (← c.if-bad_size.ensures, split, ← w.if-short_starts.ensures, ← w.if-short_tables.ensures, lt-ltb _ _ w.if-hubs-n.true)
    ]

pub survey-requires : goal.survey-requires
survey-requires c =
    let bounds = size_bounds _ (sym c.if-bad_size.ensures) in
    (bounds.0, bounds.1, ltb-false _ _ (sym c.if-short_starts.ensures))

pub returns-in_default-clause-hubs_after : goal.returns-in_default-clause-hubs_after
unfolding building
returns-in_default-clause-hubs_after c =
    let split : bad_threshold c.args.t ≡ false = sym c.bad_threshold.ensures ∙ c.if-bad_threshold.false in
    rw (
      ← c.if-bad_size.ensures,
      split,
      ← c.if-short_starts.ensures,
      ← c.if-short_tables.ensures,
      le-ltb _ _ c.if-hubs-n.false,
      c.in_default.ensures,
    )

room : (c : After-survey) → Room c.args.n c.args.starts.now c.args.full.now c.args.low.now c.args.report.now c.args.hubs.now
room c = record {
  starts_long = sym c.if-short_starts.ensures;
  tables_long = sym c.if-short_tables.ensures;
  hubs_long = c.if-hubs-n.false;
}

pub returns-clause-hubs_after : goal.returns-clause-hubs_after
returns-clause-hubs_after c =
    (build_done c.in-Some.survey c.in-Some.ensures (room (goal.at.returns-clause-hubs_after c).After-survey)
    (threshold_bound _ (sym c.bad_threshold.ensures ∙ c.if-bad_threshold.false)) c.in_force-s.ensures c.build_tables.ensures).0

pub returns-clause-build_right : goal.returns-clause-build_right
returns-clause-build_right c =
    (build_done c.in-Some.survey c.in-Some.ensures (room (goal.at.returns-clause-build_right c).After-survey)
    (threshold_bound _ (sym c.bad_threshold.ensures ∙ c.if-bad_threshold.false)) c.in_force-s.ensures c.build_tables.ensures).1
