use native.Mathlib.Omega.{arith}
use Rattle.listing_writing.proofs.Room.{listing_few}
use Rattle.listing_writing.proofs.list_survey.Goals as goal

pub list_tables-requires-clause-room : goal.list_tables-requires-clause-room
list_tables-requires-clause-room c = omega (arith, listing_few _ c.args.s _ c.args.survey.now.accepted.lists.graph c.requires.0)
