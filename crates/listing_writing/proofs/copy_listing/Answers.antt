use mathlib.Core.Path.{sym}
use Rattle.model.proofs.ReadBack.{write_short}
use Rattle.listing_writing.proofs.Whole.{copied}
use Rattle.listing_writing.proofs.copy_listing.Goals as goal

pub returns-then-buffer-lines : goal.returns-then-buffer-lines
returns-then-buffer-lines c = sym (write_short _ _ c.if-buffer-lines.true)

pub returns : goal.returns
returns c = copied c.if-buffer-lines.false c.copy.ensures
