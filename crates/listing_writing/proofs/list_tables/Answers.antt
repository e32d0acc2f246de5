use mathlib.Core.Path.{◌≡◌, ap}
use mathlib.Core.List.{List, [], ◌∷◌, ◌++◌}
use Prim.Native.Nat.{ℕ}
use native.Mathlib.Omega.{arith}
use lib.ListN.{length}
use Rattle.model.specs.Lines.{number_line_of}
use Rattle.model.specs.SurveyText.{line_of}
use Rattle.model.specs.Survey.{Graph}
use Rattle.model.specs.Listing.{pair_lines, listing_of}
use Rattle.survey_neighbours.specs.SurveyGraph.{graph}
use Rattle.text_writing.specs.declared.Writer.{Writer}
use Rattle.text_writing.specs.Writes.{HasRoom}
use Rattle.text_writing.proofs.Writing.{room_front, room_rest, writes_append}
use Rattle.table_building.proofs.WholeTables.{AreTables, tables_whole}
use Rattle.listing_writing.proofs.Whole.{count_few, listing_by_tables}
use Rattle.listing_writing.proofs.list_tables.Goals.{After-build_tables-count}
use Rattle.listing_writing.proofs.list_tables.Goals as goal

module _ {n s : ℕ} {G : Graph} {count : ℕ} {full low report : List ℕ} (t : AreTables n s G count full low report) where
  abbrev first : List ℕ
  first = number_line_of (82 ∷ []) 44 (n ∷ count ∷ [])

  abbrev pairs : List ℕ
  pairs = pair_lines n full low report

  -- the first line and the pairs' lines from the tables are the listing
  listed : first ++ pairs ≡ listing_of n s G
  unfolding line_of
  listed = listing_by_tables t

  -- and both have room where the listing has
  room : (w : Writer) → HasRoom w (listing_of n s G) → HasRoom w (first ++ pairs)
  room w h = omega (arith, h, ap length listed)

-- the tables that building left
tables : (c : After-build_tables-count) →
    AreTables c.args.survey.now.n c.args.s (graph c.args.survey.now) c.build_tables-count.result
    c.build_tables-count.new.full c.build_tables-count.new.low c.build_tables-count.new.report
tables c =
    tables_whole _ _ (graph c.args.survey.now) c.args.full.now c.args.low.now c.args.report.now _
    c.build_tables-count.ensures c.requires.sizes.1 c.requires.sizes.2 c.requires.sizes.3

pub overflow_cast-count : goal.overflow_cast-count
overflow_cast-count c = omega (arith, count_few (tables (goal.at.overflow_cast-count c).After-build_tables-count))

pub line-requires : goal.line-requires
line-requires c =
    let t = tables (goal.at.line-requires c).After-build_tables-count in
    room_front c.args.writer.now (first t) (pairs t) (room t c.args.writer.now c.requires.room)

pub write_pairs-requires : goal.write_pairs-requires
write_pairs-requires c =
    let t = tables (goal.at.write_pairs-requires c).After-build_tables-count in
    room_rest (first t) (pairs t) (room t c.args.writer.now c.requires.room) c.line.ensures

pub returns : goal.returns
returns c =
    let t = tables (goal.at.returns c).After-build_tables-count in
    let both = room t c.args.writer.now c.requires.room in
    rw (listed t) at (writes_append (first t) (pairs t) both c.line.ensures c.write_pairs.ensures)
