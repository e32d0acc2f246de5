use mathlib.Core.Path.{ap, ◌∙◌}
use lib.ListN.{length}
use Rattle.model.proofs.Entries.{length_row}
use Rattle.base_lists.proofs.TableRows.{row_put}
use Rattle.search_one_source.proofs.search_row.Goals as goal

pub returns : goal.returns
returns c = row_put _ _ _ _ _ (ap length c.search.ensures ∙ length_row _ _) c.search.ensures
