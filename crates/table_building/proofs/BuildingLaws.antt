-- The tables that building leaves, and its refusals.
-- Assumes nothing.
use mathlib.Core.Path.{◌≡◌, refl, sym, ap, ap₂, ◌∙◌}
use mathlib.Core.Bool.{Bool, true, false, not, ◌||◌}
use mathlib.Core.List.{List, [], ◌∷◌}
use Prim.Native.Nat.{ℕ, ◌*◌, ◌≤◌, ◌<◌}
use borrow.Author.Tests.{ltb-false}
use lib.Dec.{T, ltb}
use lib.ListN.{length, take}
use Rattle.std.specs.Prelude.{Some, Ok}
use Rattle.model.specs.Answers.{answered, Refusals, ◌when◌, judged}
use Rattle.model.specs.Basics.{has, over}
use Rattle.model.specs.Survey.{Graph, neighbours_of, bad_size, short_starts, is_survey, Accepted}
use Rattle.model.specs.Threshold.{in_force, bad_threshold}
use Rattle.model.specs.Hubs.{hubs}
use Rattle.model.specs.Tables.{short_tables, full_of, full_table, low_table, report_of, report_table, hub_list}
use Rattle.model.specs.Building.{AfterBuilding, built, refuse_build, building, build_returned}
use Rattle.model.specs.Demand.{BuildRight}
use Rattle.model.proofs.Covering.{hubs_below}
use Rattle.model.proofs.Demand.{building_answers, building_right}
use Rattle.model.proofs.Entries.{of_long_tables}
use Rattle.model.proofs.Outcomes.{promised, judged_either}
use Rattle.model.proofs.Tests.{of_or_false}
use Rattle.survey_neighbours.specs.declared.Survey.{Survey}
use Rattle.survey_neighbours.specs.SurveyGraph.{graph}
use Rattle.survey_acceptance.specs.Surveyed.{Surveyed}
use Rattle.table_hubs.proofs.Greedy.{hubs_front}
use Rattle.table_report.proofs.Reports.{report_same}

-- ---- what was built

-- the hubs stand in front of their list and are nodes
pub chosen_below : {n : ℕ} (s : ℕ) (G : Graph) (list : List ℕ) {list' : List ℕ} {count : ℕ} → count ≡ length (hubs n s G)
    → list' ≡ over (hub_list n s G) list → (h : ℕ) → T (has h (take count list')) → h < n
chosen_below {n} s G list {list'} {count} c e = rw (hubs_front n s G list list' count c e) (hubs_below _ _ _)

-- the hubs were chosen, and the tables filled for them; ' marks what a list holds at return
pub record Filled (n s : ℕ) (G : Graph) (full low report list full' low' report' list' : List ℕ) (count : ℕ) : Type 0 where
  pub counted : count ≡ length (hubs n s G)
  pub hubs_are : list' ≡ over (hub_list n s G) list
  pub full_is : full' ≡ over (full_of n G (take count list')) full
  pub low_is : low' ≡ over (low_table n s G) low
  pub report_is : report' ≡ over (report_of n G full' low' (take count list')) report

pub tables_built : {n s : ℕ} {G : Graph} {full low report list full' low' report' list' : List ℕ} {count : ℕ}
    → Filled n s G full low report list full' low' report' list' count
    → record { answer = answered count; full = full'; low = low'; report = report'; hubs = list' } ≡ built n s G full low report list
unfolding built full_table low_table report_table
tables_built {n} {s} {G} {full} {low} {report} {list} {full'} {low'} {report'} {list'} {count} f =
    let front = hubs_front n s G list list' count f.counted f.hubs_are in
    let full_built : full' ≡ over (full_table n s G) full = f.full_is ∙ ap (λ (hs : List ℕ). over (full_of n G hs) full) front in
    let report_built : report' ≡ over (report_table n s G) report =
    f.report_is
    ∙ ap (λ (hs : List ℕ). over (report_of n G full' low' hs) report) front
    ∙ ap₂ (λ (x y : List ℕ). over (report_of n G x y (hubs n s G)) report) full_built f.low_is
    ∙ ap (λ (t : List ℕ). over t report) (report_same n G _ _ full low (hubs n s G) (hubs_below _ _ _)) in
    λ i. record { answer = answered (f.counted i); full = full_built i; low = f.low_is i; report = report_built i; hubs = f.hubs_are i }

-- ---- what building promises

abbrev Promised : (n t : ℕ) (starts neighbours full low report list : List ℕ) → AfterBuilding → Type 0
Promised n t starts neighbours full low report list r =
    (r ≡ building n t starts neighbours full low report list) × BuildRight n t starts neighbours r

-- it holds where the value of `building` is returned
pub kept : {n : ℕ} (t : ℕ) {starts neighbours : List ℕ} (full low report list : List ℕ) {r : AfterBuilding}
    → r ≡ building n t starts neighbours full low report list → Promised n t starts neighbours full low report list r
kept {n} t {starts} {neighbours} full low report list e =
    promised (BuildRight n t starts neighbours) (building_right n t starts neighbours full low report list) e

-- a list is too short; given are the lengths
abbrev pub short : (n starts full low report list : ℕ) → Bool
short n starts full low report list = short_starts n starts || short_tables n full low report || ltb list n

pub build_short : (n t : ℕ) (starts neighbours full low report list : List ℕ) → bad_size n ≡ false → bad_threshold t ≡ false
    → short n (length starts) (length full) (length low) (length report) (length list) ≡ true
    → refuse_build full low report list 8 ≡ building n t starts neighbours full low report list
unfolding building
build_short n t starts neighbours full low report list size split h =
    let refuse = refuse_build full low report list in
    let A = short_starts n (length starts) in
    let B = short_tables n (length full) (length low) (length report) in
    let C = ltb (length list) n in
    let rest : Refusals = (9 when not (is_survey n starts neighbours)) ∷ [] in
    let done = built n (in_force n t) (neighbours_of starts neighbours) full low report list in
    let first : judged refuse ((8 when A || B || C) ∷ rest) done ≡ refuse 8 = rw h refl in
    rw (size, split) (sym (judged_either refuse 8 A B ((8 when C) ∷ rest) done ∙ judged_either refuse 8 (A || B) C rest done ∙ first))

-- the lists have room for n nodes
pub record Room (n : ℕ) (starts full low report list : List ℕ) : Type 0 where
  pub starts_long : short_starts n (length starts) ≡ false
  pub tables_long : short_tables n (length full) (length low) (length report) ≡ false
  pub hubs_long : n ≤ length list

module _ {n : ℕ} {starts full low report list : List ℕ} where
  pub room_of : short n (length starts) (length full) (length low) (length report) (length list) ≡ false
      → Room n starts full low report list
  room_of e =
      let tables = of_or_false _ _ e in
      let lists = of_or_false _ _ tables.0 in
      record { starts_long = lists.0; tables_long = lists.1; hubs_long = ltb-false _ _ tables.1 }

  pub rooms : Room n starts full low report list
      → (n * n ≤ length full) × (n * n ≤ length low) × (n * n ≤ length report) × (n ≤ length list)
  rooms room =
      let tables = of_long_tables _ _ _ _ room.tables_long in
      (tables.0, tables.1, tables.2, room.hubs_long)

-- the survey that the lists are has the same limits
module _ {n : ℕ} {starts neighbours full low report list : List ℕ} (survey : Survey) (is : Surveyed n starts neighbours (Some survey))
    (room : Room n starts full low report list) where
  pub survey_rooms : (survey.n * survey.n ≤ length full) × (survey.n * survey.n ≤ length low) × (survey.n * survey.n ≤ length report)
      × (survey.n ≤ length list)
  survey_rooms = rw is.1 (rooms room)

  pub build_done : {t s count : ℕ} {full' low' report' list' : List ℕ} → t ≤ 1024 → s ≡ in_force n t
      → record { answer = answered count; full = full'; low = low'; report = report'; hubs = list' }
      ≡ built survey.n s (graph survey) full low report list
      → Promised n t starts neighbours full low report list (build_returned (Ok count) full' low' report' list')
  build_done small q e =
      let fits = rooms room in
      let accepted : Accepted n starts neighbours = rw (is.1, is.2, is.3) at survey.accepted in
      kept _ _ _ _ _ (
      e ∙ rw (is.1, is.2, is.3) (ap (λ (x : ℕ). built n x (neighbours_of starts neighbours) full low report list) q)
      ∙ sym (building_answers _ _ _ _ accepted small _ _ _ _ fits.0 fits.1 fits.2 fits.3))
