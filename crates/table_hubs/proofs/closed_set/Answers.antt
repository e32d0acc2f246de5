use native.Mathlib.Omega.{arith}
use Prim.Native.Nat.{◌<◌}
use lib.ListN.{get_or}
use Rattle.survey_neighbours.specs.SurveyGraph.{graph}
use Rattle.table_hubs.proofs.Sets.{inserted_more, inserted_all, closed_lem, neighbour_inside}
use Rattle.table_hubs.proofs.closed_set.Goals as goal

pub insert-requires-in-loop-u : goal.insert-requires-in-loop-u
insert-requires-in-loop-u c =
    let inside : get_or c.own-row.result.now c.loop-u.u-index 0 < 1024
    = neighbour_inside c.args.survey.now.accepted c.requires c.own-row.ensures c.loop-u-test.true in
    omega arith

pub loop-u-preserved : goal.loop-u-preserved
loop-u-preserved c =
    inserted_more c.loop-u.invariant c.loop-u-test.true c.insert-in-loop-u.auto.words c.insert-in-loop-u.ensures

pub returns : goal.returns
returns c = closed_lem (graph c.args.survey.now) c.insert.ensures c.own-row.ensures (inserted_all c.loop-u.invariant (omega arith))
