-- What a command says, from what the calls answer.
-- Assumes nothing.
use mathlib.Core.Path.{◌≡◌, refl, sym, ap, subst, ◌∙◌}
use mathlib.Core.Logic.{◌⊎◌, ⊎_elim}
use mathlib.Core.List.{List}
use Prim.Native.Nat.{ℕ, ◌≤◌}
use native.Mathlib.Omega.{arith}
use lib.ListN.{length}
use Rattle.std.specs.Prelude.{Result, Ok, Err}
use Rattle.std.specs.Result.{IsOk}
use Rattle.std.proofs.Common.{rules}
use Rattle.model.specs.declared.Refusal.{Refusal}
use Rattle.model.specs.declared.Size.{Size}
use Rattle.model.specs.Answers.{answered}
use Rattle.model.specs.Basics.{over}
use Rattle.model.specs.Survey.{Accepted}
use Rattle.model.specs.Reading.{read_returned}
use Rattle.model.specs.Writing.{AfterWriting, write_returned}
use Rattle.model.specs.Dimacs.{ImportRight}
use Rattle.model.proofs.Outcomes.{never, number_in}
use Rattle.model.proofs.ReadBack.{read_survey}
use Rattle.model.proofs.Dimacs.{import_right}
use Rattle.base_lists.specs.Written.{Wrote}
use Rattle.base_lists.proofs.Written.{over_wrote}
use Rattle.desk_refusals.specs.declared.Source.{Source}
use Rattle.desk_refusals.specs.declared.Source.TheVariants.{Survey, Listing, File}
use Rattle.desk_commands.specs.Commands.{most_nodes_of, most_links_of, text_read, read_as}

-- a survey is read within its limits
pub survey_read : (source : Source) (text : List ℕ) → (source ≡ Survey) ⊎ (source ≡ Listing) → read_as source text ≡ text_read source text
unfolding read_as
survey_read source text = ⊎_elim (λ e. rw e) (λ e. rw e)

pub most_nodes_bound : (source : Source) → most_nodes_of source ≤ 1024
most_nodes_bound Survey = omega arith
most_nodes_bound Listing = omega arith
most_nodes_bound File = omega arith

pub most_links_bound : (source : Source) → most_links_of source ≤ 16384
most_links_bound Survey = omega arith
most_links_bound Listing = omega arith
most_links_bound File = omega arith

-- what is read is an accepted survey, within the limit on its nodes
pub read_accepted : (source : Source) (text : List ℕ) (starts neighbours : List ℕ) (x : Size)
    → read_returned (Ok x) starts neighbours ≡ read_as source text → Accepted x.nodes starts neighbours × (x.nodes ≤ most_nodes_of source)
unfolding read_as
read_accepted Survey text starts neighbours x e =
    read_survey 1024 16384 (omega arith) (omega arith) text 1025 32768 (Ok x) starts neighbours e x refl
read_accepted Listing text starts neighbours x e =
    read_survey 128 2048 (omega arith) (omega arith) text 1025 32768 (Ok x) starts neighbours e x refl
read_accepted File text starts neighbours x e = (survey, survey.size)
  where
    survey : Accepted x.nodes starts neighbours
    survey = (subst (ImportRight text) (sym e) (import_right text 1025 32768) x refl).survey

-- ---- a text that is written to the front of a buffer

module _ (t buf buf' : List ℕ) where
  pub never_refused : (r : Result ℕ Refusal) → write_returned r buf' ≡ record { answer = answered (length t); buffer = over t buf } → IsOk r
  never_refused (Err k) e = never (ap (λ (z : AfterWriting). z.answer) e)
  never_refused (Ok k) e = search rules

  pub written_whole : {r : Result ℕ Refusal} {k : ℕ} → write_returned r buf' ≡ record { answer = answered (length t); buffer = over t buf }
      → r ≡ Ok k → Wrote buf buf' 0 k t
  unfolding number_in
  written_whole {r} {k} e i =
      let f = ap (λ (z : Result ℕ Refusal). write_returned z buf') (sym i) ∙ e in
      let count : k ≡ length t = ap (λ (z : AfterWriting). number_in (λ n. n) z.answer) f in
      let bytes : buf' ≡ over t buf = ap (λ (z : AfterWriting). z.buffer) f in
      rw (count, bytes) (over_wrote t buf)
