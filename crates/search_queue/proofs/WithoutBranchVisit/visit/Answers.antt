use borrow.Author.Tests.{eq-eqb, ne_eqb}
use Rattle.model.specs.Basics.{none}
use Rattle.search_queue.proofs.Visiting.{visit_is}
use Rattle.search_queue.proofs.WithoutBranchVisit.visit.Goals.{then-entry, else-entry, then-entry-2, else-entry-2}
use Rattle.search_queue.proofs.WithoutBranchVisit.visit.Goals as goal

pub returns : goal.returns
returns c =
    visit_is c.args.row.now _ _ _ _ c.requires.2
    (elim c.if-entry.branch [
      | then-entry w ↦ rw (eq-eqb _ none w.if-entry.true) w.row-is
      | else-entry w ↦ rw (ne_eqb _ none w.if-entry.false) w.row-is
    ])
    (elim c.if-entry-2.branch [
      | then-entry-2 w ↦ rw (eq-eqb _ none w.if-entry-2.true) w.result-is
      | else-entry-2 w ↦ rw (ne_eqb _ none w.if-entry-2.false) w.result-is
    ])
