-- The words of two nodes and a threshold ask for just these, wherever the option stands, for every command of two nodes that splits nodes.
-- Assumes nothing.
use mathlib.Core.Path.{◌≡◌}
use mathlib.Core.Bool.{true, false}
use mathlib.Core.List.{[], ◌∷◌}
use Prim.Native.Nat.{ℕ}
use Rattle.std.specs.Prelude.{Ok}
use Rattle.desk_words.specs.declared.Command.{Command}
use Rattle.desk_words.specs.declared.Word.TheVariants.{Option, Number}
use Rattle.desk_words.specs.declared.Question.{Question}
use Rattle.desk_words.specs.Words.{nodes_of, splits_nodes, nothing_yet, all_taken}

-- nodes a and b, split by t
abbrev both : (a b t : ℕ) → Question
both a b t = record { nodes = 2; a = a; b = b; threshold = t; named = true; number_next = false }

module _ (c : Command) (two : nodes_of c ≡ 2) (splits : splits_nodes c ≡ true) (a b t : ℕ) where
  pub option_first : all_taken c nothing_yet (Option ∷ Number t ∷ Number a ∷ Number b ∷ []) ≡ Ok (both a b t)
  unfolding all_taken
  option_first = simp (two, splits)

  pub option_between : all_taken c nothing_yet (Number a ∷ Option ∷ Number t ∷ Number b ∷ []) ≡ Ok (both a b t)
  unfolding all_taken
  option_between = simp (two, splits)

  pub option_last : all_taken c nothing_yet (Number a ∷ Number b ∷ Option ∷ Number t ∷ []) ≡ Ok (both a b t)
  unfolding all_taken
  option_last = simp (two, splits)
