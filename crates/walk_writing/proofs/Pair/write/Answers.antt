use mathlib.Core.Path.{refl, ◌∙◌}
use mathlib.Core.List.{[], ◌∷◌}
use native.Mathlib.Omega.{arith}
use Prim.Native.Nat.{◌≤◌}
use lib.ListN.{length}
use Rattle.std.proofs.lemmas.Bool.Decides.{nat_tests}
use lib.Seq.{set_split}
use Rattle.model.specs.Basics.{over}
use Rattle.model.specs.Walk.{walk_nodes}
use Rattle.walk_routes.proofs.FitLaws.{short_refused, fits_given}
use Rattle.walk_writing.proofs.Pair.write.Goals as goal

pub returns-then-is_empty : goal.returns-then-is_empty
unfolding walk_nodes
returns-then-is_empty c = rw c.in-Itself.is (short_refused c.requires _ (_ ∷ []) (grind (arith, nat_tests)))

pub returns-else-is_empty : goal.returns-else-is_empty
unfolding walk_nodes over
returns-else-is_empty c =
    let room : 1 ≤ length c.args.walk.now = grind (arith, nat_tests) in
    rw c.in-Itself.is (fits_given c.requires _ (_ ∷ []) room (set_split c.args.walk.now 0 _ room))

pub returns-in-Low : goal.returns-in-Low
unfolding walk_nodes
returns-in-Low c = c.write_low.ensures ∙ rw c.in-Low.is

pub returns-in-Through : goal.returns-in-Through
unfolding walk_nodes
returns-in-Through c = c.write_through.ensures ∙ rw (c.in-Through.is, c.from-h.ensures)

pub returns-in-NoRoute : goal.returns-in-NoRoute
unfolding walk_nodes over
returns-in-NoRoute c = rw c.in-NoRoute.is (fits_given c.requires _ [] (omega arith) refl)

pub returns-in-Link : goal.returns-in-Link
unfolding walk_nodes
returns-in-Link c = c.write_link.ensures ∙ rw c.in-Link.is
