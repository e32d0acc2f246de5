use native.Mathlib.Omega.{arith}
use Rattle.model.specs.Listing.{listing_text}
use Rattle.listing_writing.proofs.Room.{refusal_few}
use Rattle.listing_writing.proofs.list_refusal.Goals as goal

pub line-requires : goal.line-requires
unfolding listing_text
line-requires c = omega (arith, refusal_few c.args.refusal c.refusal_number-number.ensures)
