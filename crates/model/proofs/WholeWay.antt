-- The whole way, from a text to reports and walks, over the links that the text's lines name.
-- Assumes nothing.
use mathlib.Core.Path.{◌≡◌, ap, fun_ext}
use mathlib.Core.List.{List}
use Prim.Native.Nat.{ℕ, ◌*◌, ◌≤◌, ◌<◌}
use lib.ListN.{length}
use Rattle.model.specs.declared.Size.{Size}
use Rattle.model.specs.Answers.{answered}
use Rattle.model.specs.Graph.{linked}
use Rattle.model.specs.Survey.{Graph, neighbours_of}
use Rattle.model.specs.Threshold.{in_force}
use Rattle.model.specs.Hubs.{hubs}
use Rattle.model.specs.Reading.{named, reading}
use Rattle.model.specs.Building.{AfterBuilding, built, building}
use Rattle.model.specs.Demand.{WholeWay}
use Rattle.model.proofs.Demand.{building_answers, building_right, walking_sound, walking_right}
use Rattle.model.proofs.ReadBack.{reading_right}

-- a text that is read, a threshold that is not refused, tables built from what was read in lists that are long enough, and two nodes below n
pub whole_way : (text : List ℕ) (p q : ℕ) (x : Size) → (reading text p q).answer ≡ answered x
    → (t : ℕ) → t ≤ 1024 → (full low report list : List ℕ)
    → x.nodes * x.nodes ≤ length full → x.nodes * x.nodes ≤ length low → x.nodes * x.nodes ≤ length report → x.nodes ≤ length list
    → (a b : ℕ) → a < x.nodes → b < x.nodes
    → WholeWay text x (reading text p q).starts (reading text p q).neighbours t
    (building x.nodes t (reading text p q).starts (reading text p q).neighbours full low report list) a b
unfolding built
whole_way text p q x e t small full low report list hf hl hr hh a b ha hb =
    let n = x.nodes in
    let starts = (reading text p q).starts in
    let neighbours = (reading text p q).neighbours in
    let G : Graph = neighbours_of starts neighbours in
    let made = building n t starts neighbours full low report list in
    let f = reading_right _ _ _ _ e in
    let done = ap (λ (r : AfterBuilding). r.answer) (building_answers _ _ _ _ f.survey small _ _ _ _ hf hl hr hh) in
    let own = (building_right n t starts neighbours full low report list _ done).tables.tables in
    let same : linked n G ≡ named f.links = fun_ext (λ u. fun_ext (λ v. f.exactly u v)) in
    let right : (w : ℕ) → _ = λ w. walking_right n t starts neighbours made.full made.low made.report a b w f.survey small own
    ha hb in
    let asked = (right 0).0 in
    record {
      links = f.links;
      as_many = f.count;
      lines = f.lines;
      count = length (hubs n (in_force n t) G);
      builds = done;
      value = asked.value;
      asked = asked.given;
      allowed = rw same at asked.allowed;
      by_link_iff = rw same at asked.by_link_iff;
      least = rw same at asked.least;
      walked = λ w room.
          let i = (right w).1 asked.value asked.given room in
          let sound = rw same at (walking_sound n t starts neighbours made.full made.low made.report a b w) in
          (i, sound asked.value i);
    }
