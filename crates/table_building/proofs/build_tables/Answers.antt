use mathlib.Core.Path.{sym}
use Prim.Native.Nat.{ℕ, ◌≤◌, ◌<◌}
use native.Mathlib.Omega.{arith}
use lib.Dec.{T}
use lib.ListN.{take}
use lib.Seq.{length-take-le}
use Rattle.model.specs.Basics.{has}
use Rattle.survey_neighbours.specs.SurveyGraph.{graph}
use Rattle.model.proofs.Covering.{hubs_length}
use Rattle.table_building.proofs.BuildingLaws.{chosen_below, tables_built}
use Rattle.table_building.proofs.build_tables.Goals.{After-choose_hubs-count}
use Rattle.table_building.proofs.build_tables.Goals as goal

few : (c : After-choose_hubs-count) → c.choose_hubs-count.result ≤ c.args.survey.now.n
few c = omega (arith, c.choose_hubs-count.ensures.value, hubs_length c.args.survey.now.n (graph c.args.survey.now) c.args.s)

below : (c : After-choose_hubs-count) → (h : ℕ) → T (has h (take c.choose_hubs-count.result c.choose_hubs-count.new.list)) → h < c.args.survey.now.n
below c = chosen_below _ (graph c.args.survey.now) _ c.choose_hubs-count.ensures.value c.choose_hubs-count.ensures.list_after

pub slice_bounds-fill_full-end : goal.slice_bounds-fill_full-end
slice_bounds-fill_full-end c = omega (arith, few (goal.at.slice_bounds-fill_full-end c).After-choose_hubs-count)

pub slice_bounds-fill_full-end-2 : goal.slice_bounds-fill_full-end-2
slice_bounds-fill_full-end-2 c =
    sym (length-take-le _ _ (omega (arith, few (goal.at.slice_bounds-fill_full-end-2 c).After-choose_hubs-count)))

pub fill_full-requires-clause-by_index : goal.fill_full-requires-clause-by_index
fill_full-requires-clause-by_index c = below (goal.at.fill_full-requires-clause-by_index c).After-choose_hubs-count

pub slice_bounds-fill_report-end : goal.slice_bounds-fill_report-end
slice_bounds-fill_report-end c = omega (arith, few (goal.at.slice_bounds-fill_report-end c).After-choose_hubs-count)

pub slice_bounds-fill_report-end-2 : goal.slice_bounds-fill_report-end-2
slice_bounds-fill_report-end-2 c =
    sym (length-take-le _ _ (omega (arith, few (goal.at.slice_bounds-fill_report-end-2 c).After-choose_hubs-count)))

pub fill_report-requires-clause-by_index : goal.fill_report-requires-clause-by_index
fill_report-requires-clause-by_index c = (below (goal.at.fill_report-requires-clause-by_index c).After-choose_hubs-count, omega arith)

pub returns : goal.returns
returns c =
    tables_built (record {
      counted = c.choose_hubs-count.ensures.value;
      hubs_are = c.choose_hubs-count.ensures.list_after;
      full_is = c.fill_full.ensures;
      low_is = c.fill_low.ensures;
      report_is = c.fill_report.ensures;
    })
