-- The three tables.
-- Assumes nothing.
use Rattle.std.specs.Prelude.{◌≡◌, List, ℕ}
use Rattle.answer_pair.specs.declared.Tables.{Tables}

-- the tables are these lists, of n nodes
pub record AreOf (t : Tables) (n : ℕ) (full low report : List ℕ) : Type 0 where
  pub count : t.n ≡ n
  pub in_full : t.full.now ≡ full
  pub in_low : t.low.now ≡ low
  pub in_report : t.report.now ≡ report
