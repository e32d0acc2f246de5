-- What building leaves in tables of exactly n x n entries.
-- Assumes nothing.
use mathlib.Core.Path.{◌≡◌, sym, ap, ◌∙◌}
use mathlib.Core.List.{List}
use Prim.Native.Nat.{ℕ, ◌*◌}
use lib.ListN.{length}
use Rattle.model.specs.Answers.{answered}
use Rattle.model.specs.Survey.{Graph}
use Rattle.model.specs.Hubs.{hubs}
use Rattle.model.specs.Tables.{full_table, low_table, report_table}
use Rattle.model.specs.Building.{AfterBuilding, built}
use Rattle.model.proofs.Entries.{length_table}
use Rattle.model.proofs.Outcomes.{number_in}
use Rattle.base_lists.proofs.Written.{over_whole}

-- the number of hubs, and the three tables
pub record AreTables (n s : ℕ) (G : Graph) (count : ℕ) (full low report : List ℕ) : Type 0 where
  pub count_is : count ≡ length (hubs n s G)
  pub full_is : full ≡ full_table n s G
  pub low_is : low ≡ low_table n s G
  pub report_is : report ≡ report_table n s G

pub tables_whole : (n s : ℕ) (G : Graph) (full low report list : List ℕ) {full' low' report' list' : List ℕ} {count : ℕ}
    → record { answer = answered count; full = full'; low = low'; report = report'; hubs = list' } ≡ built n s G full low report list
    → length full ≡ n * n → length low ≡ n * n → length report ≡ n * n → AreTables n s G count full' low' report'
unfolding built full_table low_table report_table number_in
tables_whole n s G full low report list e full_size low-size report-size = record {
  count_is = ap (λ (b : AfterBuilding). number_in (λ k. k) b.answer) e;
  full_is = ap (λ (b : AfterBuilding). b.full) e ∙ over_whole _ full (full_size ∙ sym (length_table n _));
  low_is = ap (λ (b : AfterBuilding). b.low) e ∙ over_whole _ low (low-size ∙ sym (length_table n _));
  report_is = ap (λ (b : AfterBuilding). b.report) e ∙ over_whole _ report (report-size ∙ sym (length_table n _));
}
