use mathlib.Core.Path.{sym}
use borrow.Author.Tests.{ltb-false}
use Rattle.survey_reading_lines.proofs.FirstLaws.{no_node, many_nodes, many_links, starts_short, neighbours_short, counted}
use Rattle.survey_reading_lines.proofs.within_limits.Goals as goal
use Rattle.survey_reading_lines.proofs.within_limits.Goals.{then-line-lt1-via-then-line-lt1, then-line-lt1-via-else-line-lt1+then-limits-line}
use Rattle.survey_reading_lines.proofs.within_limits.Goals.{then-short_starts-via-then-short_starts, then-short_starts-via-else-short_starts+then-limits-m}

pub returns-then-line-lt1 : goal.returns-then-line-lt1
returns-then-line-lt1 c text = elim c.then-line-lt1.branch [
  | then-line-lt1-via-then-line-lt1 w ↦ no_node _ _ _ _ _ _ _ w.if-line-lt1.true
  | then-line-lt1-via-else-line-lt1+then-limits-line w ↦ many_nodes _ _ _ _ _ _ _ w.if-limits-line.true
]

pub returns-then-limits-line-2 : goal.returns-then-limits-line-2
returns-then-limits-line-2 c text = many_links _ _ _ _ _ _ _ c.if-line-lt1.false c.if-limits-line.false c.if-limits-line-2.true

pub returns-then-short_starts : goal.returns-then-short_starts
returns-then-short_starts c text =
    elim c.then-short_starts.branch [
      | then-short_starts-via-then-short_starts w ↦ starts_short _ _ _ _ _ _ _ c.if-line-lt1.false c.if-limits-line.false c.if-limits-line-2.false (sym w.if-short_starts.ensures)
      | then-short_starts-via-else-short_starts+then-limits-m w ↦ neighbours_short _ _ _ _ _ _ _ c.if-line-lt1.false c.if-limits-line.false c.if-limits-line-2.false w.if-limits-m.true
    ]

pub returns : goal.returns
returns c text =
    counted _ _ _ _ _ _ _ c.if-line-lt1.false c.if-limits-line.false c.if-limits-line-2.false (ltb-false _ _ (sym c.if-short_starts.ensures)) c.if-limits-m.false
