use mathlib.Core.Path.{refl}
use mathlib.Core.Logic.{inl, inr}
use native.Mathlib.Omega.{arith}
use Rattle.search_source_sets.proofs.RowMarks.{bit_marked}
use Rattle.search_source_sets.proofs.mark_bit.Goals as goal

pub returns-then-end-row : goal.returns-then-end-row
returns-then-end-row c =
    bit_marked _ _ _ _ _ c.mark_block.new.part (omega arith) (omega arith) (omega arith) (inl refl) c.mark_block.auto.part c.mark_block.ensures

pub returns-then-start-row : goal.returns-then-start-row
returns-then-start-row c =
    bit_marked _ _ _ _ _ c.mark_block-then-start-row.new.part (omega arith) (omega arith) (omega arith) (inr refl) c.mark_block-then-start-row.auto.part c.mark_block-then-start-row.ensures
