-- Building: the answer, and what the three tables and the hub list hold at return.
-- Assumes nothing.
use Rattle.std.specs.Prelude.{Result, not, List, [], ◌∷◌, ℕ, ltb, length}
use Rattle.model.specs.declared.Refusal.{Refusal}
use Rattle.model.specs.Answers.{Outcome, refused, answered, Refusals, ◌when◌, judged, outcome}
use Rattle.model.specs.Basics.{over}
use Rattle.model.specs.Survey.{Graph, neighbours_of, bad_size, short_starts, is_survey}
use Rattle.model.specs.Threshold.{in_force, bad_threshold}
use Rattle.model.specs.Hubs.{hubs}
use Rattle.model.specs.Tables.{short_tables, full_table, low_table, report_table, hub_list}

-- the answer, and what the tables and the hub list hold at return (rule 10.7)
pub record AfterBuilding : Type 0 where
  pub answer : Outcome ℕ
  pub full : List ℕ
  pub low : List ℕ
  pub report : List ℕ
  pub hubs : List ℕ

-- what a call of the code returned and left (rule 10.7)
abbrev pub build_returned : Result ℕ Refusal → (full low report list : List ℕ) → AfterBuilding
build_returned r full low report list = record { answer = outcome r; full = full; low = low; report = report; hubs = list }

-- rule 10.7, where it is not refused: the tables of rules 5.2 to 5.5 and the hub list of rule 4.7 stand in front, and the entries past them
-- are kept. For any threshold s
unfoldable pub built : (n s : ℕ) → Graph → (full low report list : List ℕ) → AfterBuilding
built n s G full low report list = record {
  answer = answered (length (hubs n s G));
  full = over (full_table n s G) full;
  low = over (low_table n s G) low;
  report = over (report_table n s G) report;
  hubs = over (hub_list n s G) list;
}

-- rule 10.7: the refusals in their order
abbrev pub build_refusals : (n t : ℕ) (starts neighbours full low report list : List ℕ) → Refusals
build_refusals n t starts neighbours full low report list =
    (2 when bad_size n)
    ∷ (14 when bad_threshold t)
    ∷ (8 when short_starts n (length starts))
    ∷ (8 when short_tables n (length full) (length low) (length report))
    ∷ (8 when ltb (length list) n)
    ∷ (9 when not (is_survey n starts neighbours))
    ∷ []

-- rule 10.7: building is refused with number k, and nothing is altered
abbrev pub refuse_build : (full low report list : List ℕ) → ℕ → AfterBuilding
refuse_build full low report list k = record { answer = refused k; full = full; low = low; report = report; hubs = list }

-- rule 10.7: refused, or built with the threshold in force where the caller gives t
unfoldable pub building : (n t : ℕ) (starts neighbours full low report list : List ℕ) → AfterBuilding
building n t starts neighbours full low report list =
    judged (refuse_build full low report list) (build_refusals n t starts neighbours full low report list)
    (built n (in_force n t) (neighbours_of starts neighbours) full low report list)
