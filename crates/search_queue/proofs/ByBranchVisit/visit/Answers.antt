use Rattle.search_queue.proofs.Visiting.{visit_old, visit_joined}
use Rattle.search_queue.proofs.ByBranchVisit.visit.Goals as goal

pub returns-then-row-w : goal.returns-then-row-w
returns-then-row-w c = visit_old c.args.row.now _ _ _ _ c.if-row-w.true

pub returns : goal.returns
returns c = visit_joined c.args.row.now _ _ _ _ c.requires.2 c.if-row-w.false
