-- The length that the listing answers is within its buffer.
use Rattle.std.proofs.Common.{sym, length-take-le}
use Rattle.model.specs.Listing.{listing}
use Rattle.model.proofs.ReadBack.{write_fits}
use Rattle.reports.proofs.list.Goals as goal

pub slice_bounds-write_all-end : goal.slice_bounds-write_all-end
slice_bounds-write_all-end g c = write_fits (listing _) _ _ _ c.in-Ok.ensures.buffer_after

pub slice_bounds-write_all-end-in-Ok : goal.slice_bounds-write_all-end-in-Ok
slice_bounds-write_all-end-in-Ok g c = sym (length-take-le _ _ (write_fits (listing _) _ _ _ c.in-Ok.ensures.buffer_after))
