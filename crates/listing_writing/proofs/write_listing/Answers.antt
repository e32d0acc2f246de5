use mathlib.Core.Path.{◌∙◌}
use Rattle.base_lists.proofs.Written.{front_is}
use Rattle.listing_writing.proofs.write_listing.Goals as goal

pub returns-clause-buffer_after : goal.returns-clause-buffer_after
returns-clause-buffer_after c = c.copy_listing.ensures ∙ rw (front_is c.list_text-length.ensures.wrote)
