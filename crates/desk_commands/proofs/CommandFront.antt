-- What a command says of a text of any length is what it says of the text's first 524,288 bytes.
-- Assumes nothing.
use mathlib.Core.Path.{◌≡◌, refl, ap}
use mathlib.Core.Bool.{true}
use mathlib.Core.Logic.{◌⊎◌, inl, inr, ⊎_elim}
use mathlib.Core.List.{List}
use Prim.Native.Nat.{ℕ}
use native.Mathlib.Omega.{arith}
use borrow.Author.Tests.{lt-ltb}
use lib.ListN.{length, take, length-take}
use lib.Seq.{take_all}
use Rattle.model.specs.Reading.{reading_of}
use Rattle.model.proofs.Fronts.{parse_front}
use Rattle.model.proofs.Tests.{lt_or}
use Rattle.survey_stops.proofs.StopFront.{stop_front, nodes_front}
use Rattle.desk_words.specs.declared.Command.{Command}
use Rattle.desk_refusals.specs.declared.Source.{Source}
use Rattle.desk_refusals.specs.declared.Source.TheVariants.{Survey, Listing, File}
use Rattle.desk_commands.specs.Commands.{source_of, too_long, read_as, stop_of, read_said, command_said}

module _ (text : List ℕ) where
  abbrev front : List ℕ
  front = take 524288 text

  -- the front is read as the text is, and stops where it stops
  abbrev SameRead : Source → Type 0
  SameRead source =
      (too_long source front ≡ too_long source text) × (read_as source front ≡ read_as source text) × (stop_of source front ≡ stop_of source text)

  same_read : (source : Source) → SameRead source ⊎ ((too_long source front ≡ true) × (too_long source text ≡ true))
  unfolding too_long read_as
  same_read Survey = inl (
    refl,
    ap (reading_of 1025 32768) (parse_front 1024 16384 1025 32768 text 524288 (omega arith)),
    rw (stop_front 1024 16384 text 524288 (omega arith), nodes_front 1024 16384 text 524288 (omega arith)),
  )
  same_read Listing = inl (
    refl,
    ap (reading_of 1025 32768) (parse_front 128 2048 1025 32768 text 524288 (omega arith)),
    rw (stop_front 128 2048 text 524288 (omega arith), nodes_front 128 2048 text 524288 (omega arith)),
  )
  same_read File =
      ⊎_elim (λ h. inr (lt-ltb _ (length front) (omega (arith, length-take 524288 text)), lt-ltb _ (length text) (omega arith)))
      (λ h. inl (rw (take_all 524288 text h) (refl, refl, refl)))
      (lt_or 524288 (length text))

  pub said_front : (c : Command) (t a b : ℕ) → command_said c t a b front ≡ command_said c t a b text
  unfolding command_said read_said
  said_front c t a b =
      ⊎_elim (λ s. simp (s.0, s.1, s.2)) (λ s. rw (s.0, s.1)) (same_read (source_of c))
