-- What asking a pair promises of its answer, and where the tables have room.
-- Assumes nothing.
use mathlib.Core.Path.{◌≡◌, sym, subst}
use mathlib.Core.List.{List}
use Prim.Native.Nat.{ℕ}
use Rattle.model.specs.declared.Answer.{Answer}
use Rattle.model.specs.Answers.{Outcome}
use Rattle.model.specs.Asking.{asking}
use Rattle.model.specs.Demand.{AskRight}
use Rattle.model.proofs.Demand.{asking_right}

-- an answer by the rules is right
pub asked_right : (n : ℕ) (full low report : List ℕ) (a b : ℕ) (o : Outcome Answer)
    → o ≡ asking n full low report a b → AskRight n full low report a b o
asked_right n full low report a b o e = subst (AskRight n full low report a b) (sym e) (asking_right n full low report a b)
