-- The texts of a report and of the rows of pairs.
-- Assumes nothing.
use mathlib.Core.Path.{◌≡◌, refl, ap, ◌∙◌}
use mathlib.Core.List.{List, [], ◌∷◌}
use Prim.Native.Nat.{ℕ, ◌+◌, ◌-◌}
use native.Mathlib.Omega.{arith}
use borrow.Author.Tests.{eq-eqb, ne_eqb}
use Rattle.model.specs.Basics.{none, from, up_to, gather}
use Rattle.model.specs.Numbers.{digits}
use Rattle.model.specs.Listing.{report_text, pair_lines}
use Rattle.model.proofs.Lists.{gather_same, of_up_to}
use Rattle.model.proofs.Listing.{by_pairs}
use Rattle.model.proofs.Loops.{above}
use Rattle.listing_lines.specs.RowText.{answer_text, row_text}

pub report_none : (r : ℕ) → r ≡ none → report_text r ≡ 45 ∷ []
unfolding report_text
report_none r e = rw (eq-eqb r none e) refl

pub report_some : (r : ℕ) → (r ≡ none → ⊥) → report_text r ≡ digits r
unfolding report_text
report_some r e = rw (ne_eqb r none e) refl

-- ---- the pairs of all nodes, one node's row after the other's

module _ (n : ℕ) (full low report : List ℕ) where
  -- the pairs of node a with each larger node
  abbrev pub whole_row : ℕ → List ℕ
  whole_row a = row_text n full low report a (a + 1)

  -- the rows of the nodes from a on
  abbrev pub rows_from : ℕ → List ℕ
  rows_from a = gather whole_row (from a (n - a))

  pub pairs_rows : pair_lines n full low report ≡ rows_from 0
  unfolding pair_lines row_text up_to
  pairs_rows =
      let e : n ≡ n - 0 = omega arith in
      by_pairs (λ p. answer_text n full low report p.0 p.1) n
      ∙ gather_same _ _ (up_to n) (λ a m. ap (gather (λ x. answer_text n full low report a x)) (above a n (of_up_to n a m)))
      ∙ ap (λ (k : ℕ). gather whole_row (from 0 k)) e
