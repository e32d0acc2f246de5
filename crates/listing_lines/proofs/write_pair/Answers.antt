use mathlib.Core.List.{List, [], ◌∷◌, ◌++◌}
use Prim.Native.Nat.{ℕ}
use native.Mathlib.Omega.{arith}
use Rattle.model.specs.declared.Answer.{Answer}
use Rattle.model.specs.Answers.{answered}
use Rattle.model.specs.Numbers.{digits}
use Rattle.model.specs.Listing.{report_text, route_text, pair_line}
use Rattle.text_writing.specs.declared.Writer.{Writer}
use Rattle.text_writing.specs.Writes.{HasRoom, Writes}
use Rattle.text_writing.proofs.Writing.{Remains, remains_all, remains_fits, remains_more, remains_none}
use Rattle.listing_lines.proofs.write_pair.Goals as goal

-- the fields of a line: a, b, the report and the route, and its end
abbrev fields : ℕ → ℕ → Answer → List ℕ
fields a b x = 44 ∷ (digits a ++ 44 ∷ (digits b ++ 44 ∷ (report_text x.report ++ 44 ∷ (route_text x.route ++ 10 ∷ []))))

-- they remain behind its letter
fields_remain : (a b : ℕ) (x : Answer) {old new : Writer} → HasRoom old (pair_line (a, b) (answered x))
    → Writes old new (80 ∷ []) → Remains old new (pair_line (a, b) (answered x)) (fields a b x)
unfolding pair_line
fields_remain a b x room w = remains_more (remains_all room) w

pub byte-requires : goal.byte-requires
unfolding pair_line
byte-requires c = omega (arith, c.requires)

pub field-requires : goal.field-requires
field-requires c = remains_fits (44 ∷ digits c.args.a) _ (fields_remain _ _ _ c.requires c.byte.ensures)

pub field-requires-2 : goal.field-requires-2
field-requires-2 c =
    remains_fits (44 ∷ digits c.args.b) _ (remains_more (fields_remain _ _ _ c.requires c.byte.ensures) c.field.ensures)

pub write_report-requires : goal.write_report-requires
write_report-requires c =
    let behind_a = remains_more (fields_remain _ _ _ c.requires c.byte.ensures) c.field.ensures in
    remains_fits (44 ∷ report_text c.args.answer.report) _ (remains_more behind_a c.field-2.ensures)

pub write_route-requires : goal.write_route-requires
write_route-requires c =
    let behind_a = remains_more (fields_remain _ _ _ c.requires c.byte.ensures) c.field.ensures in
    let behind_b = remains_more behind_a c.field-2.ensures in
    remains_fits (44 ∷ route_text c.args.answer.route) _ (remains_more behind_b c.write_report.ensures)

pub byte-requires-2 : goal.byte-requires-2
byte-requires-2 c =
    let behind_a = remains_more (fields_remain _ _ _ c.requires c.byte.ensures) c.field.ensures in
    let behind_b = remains_more behind_a c.field-2.ensures in
    let behind_report = remains_more behind_b c.write_report.ensures in
    remains_fits (10 ∷ []) [] (remains_more behind_report c.write_route.ensures)

pub returns : goal.returns
returns c =
    let behind_a = remains_more (fields_remain _ _ _ c.requires c.byte.ensures) c.field.ensures in
    let behind_b = remains_more behind_a c.field-2.ensures in
    let behind_report = remains_more behind_b c.write_report.ensures in
    remains_none (remains_more (remains_more behind_report c.write_route.ensures) c.byte-2.ensures)
