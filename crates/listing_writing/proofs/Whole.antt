-- The listing of a text, from what reading and building leave.
-- Assumes nothing.
use mathlib.Core.Path.{◌≡◌, refl, sym, ap, ◌∙◌}
use mathlib.Core.List.{List, ◌++◌}
use Prim.Native.Nat.{ℕ, ◌+◌, ◌*◌, ◌≤◌}
use native.Mathlib.Nat.{mul-le-mul}
use native.Mathlib.Omega.{arith}
use lib.ListN.{length}
use Rattle.model.specs.declared.Refusal.{Refusal}
use Rattle.model.specs.declared.Size.{Size}
use Rattle.std.specs.Prelude.{Ok, Err}
use Rattle.model.specs.Answers.{Outcome, refused, answered, number}
use Rattle.model.specs.SurveyText.{line_of}
use Rattle.model.specs.Survey.{Graph, neighbours_of, Accepted}
use Rattle.model.specs.Threshold.{in_force}
use Rattle.model.specs.Reading.{AfterReading, Parsed, parse, read_returned, reading_of}
use Rattle.model.specs.Writing.{writing_of, write_returned}
use Rattle.model.specs.Listing.{pair_lines, listing_of, listing_text, listing}
use Rattle.model.proofs.Covering.{hubs_length}
use Rattle.model.proofs.Outcomes.{never, number_in}
use Rattle.model.proofs.ReadBack.{read_survey, read_graph, write_whole}
use Rattle.table_building.proofs.WholeTables.{AreTables}
use Rattle.base_lists.specs.Written.{Wrote}
use Rattle.base_lists.proofs.Written.{wrote_over}

pub square_most : (n : ℕ) → n ≤ 128 → n * n ≤ 16384
square_most n h = mul-le-mul h h

-- ---- tables of exactly n x n entries

module _ {n s : ℕ} {G : Graph} {count : ℕ} {full low report : List ℕ} (t : AreTables n s G count full low report) where
  pub count_few : count ≤ n
  count_few = omega (arith, t.count_is, hubs_length n G s)

  -- the listing is made of the first line and the pairs' lines from these tables
  pub listing_by_tables : line_of 82 n count ++ pair_lines n full low report ≡ listing_of n s G
  unfolding listing_of
  listing_by_tables = rw (t.count_is, t.full_is, t.low_is, t.report_is) refl

-- ---- what reading leaves in lists for 128 nodes and 2,048 links

-- a survey of at most 128 nodes whose listing, with the stored threshold, is that of the text
pub record IsListed (text starts neighbours : List ℕ) (n : ℕ) : Type 0 where
  pub survey : Accepted n starts neighbours
  pub few : n ≤ 128
  pub lines : listing_of n (in_force n 0) (neighbours_of starts neighbours) ≡ listing text

listing_said : (text : List ℕ) {p q : ℕ} → p ≡ 128 + 1 → q ≡ 2 * 2048 → listing_text (parse 128 2048 p q text) ≡ listing text
unfolding listing
listing_said text p-is q-is = rw (p-is, q-is) refl

module _ (text : List ℕ) {p q : ℕ} (p-is : p ≡ 128 + 1) (q-is : q ≡ 2 * 2048) {starts neighbours : List ℕ} where
  pub listing_refused : (r : Refusal) → read_returned (Err r) starts neighbours ≡ reading_of p q (parse 128 2048 p q text)
      → listing_text (refused (number r)) ≡ listing text
  unfolding reading_of number_in
  listing_refused r e = at (parse 128 2048 p q text) e ∙ listing_said text p-is q-is
    where
      at : (o : Outcome Parsed) → read_returned (Err r) starts neighbours ≡ reading_of p q o
          → listing_text (refused (number r)) ≡ listing_text o
      at (refused k) e = ap (λ (z : AfterReading). listing_text (refused (number_in (λ s. s.nodes) z.answer))) e
      at (answered x) e = never (ap (λ (z : AfterReading). z.answer) e)

  pub listing_read : (x : Size) → read_returned (Ok x) starts neighbours ≡ reading_of p q (parse 128 2048 p q text)
      → IsListed text starts neighbours x.nodes
  unfolding reading_of listing_text number_in
  listing_read x e =
      let r = read_survey 128 2048 (omega arith) (omega arith) text p q (Ok x) starts neighbours e x refl in
      record { survey = r.0; few = r.1; lines = at (parse 128 2048 p q text) refl e }
    where
      at : (o : Outcome Parsed) → parse 128 2048 p q text ≡ o → read_returned (Ok x) starts neighbours ≡ reading_of p q o
          → listing_of x.nodes (in_force x.nodes 0) (neighbours_of starts neighbours) ≡ listing text
      at (refused k) h e = never (sym (ap (λ (z : AfterReading). z.answer) e))
      at (answered y) h e =
          let j : x.nodes ≡ y.nodes = ap (λ (z : AfterReading). number_in (λ s. s.nodes) z.answer) e in
          let s : starts ≡ (reading_of p q (answered y)).starts = ap (λ (z : AfterReading). z.starts) e in
          let m : neighbours ≡ (reading_of p q (answered y)).neighbours = ap (λ (z : AfterReading). z.neighbours) e in
          rw (j, s, m, read_graph 128 2048 p q (omega arith) (omega arith) text y h)
          (sym (ap listing_text h) ∙ listing_said text p-is q-is)

-- ---- a listing that is copied into a buffer

pub copied : {t buffer buffer' : List ℕ} {k : ℕ} → length t ≤ length buffer → Wrote buffer buffer' 0 k t
    → write_returned (Ok (length t)) buffer' ≡ writing_of (answered tt) t buffer
copied {t} {buffer} h v = rw (wrote_over t v).0 (sym (write_whole t buffer h))
