use mathlib.Core.Path.{◌≡◌, refl, ap}
use Prim.Native.Nat.{ℕ}
use native.Mathlib.Omega.{arith}
use lib.ListN.{length, length-replicate}
use Rattle.model.specs.Answers.{number, refused}
use Rattle.model.specs.Threshold.{in_force}
use Rattle.model.specs.Listing.{listing_text, listing}
use Rattle.listing_writing.proofs.Room.{refusal_few, listing_few}
use Rattle.listing_writing.proofs.Whole.{IsListed, listing_refused, listing_read}
use Rattle.listing_writing.proofs.list_text.Goals.{In-Ok, In-Err}
use Rattle.listing_writing.proofs.list_text.Goals as goal

-- what reading left in lists of 129 and 4,096 entries
read : (c : In-Ok) → IsListed c.args.text.now c.read_within.new.starts c.read_within.new.neighbours c.in-Ok.size.nodes
read c = listing_read c.args.text.now (length-replicate {A = ℕ} 129 0) (length-replicate {A = ℕ} 4096 0) c.in-Ok.size c.in-Ok.ensures

refused-line : (c : In-Err) → listing_text (refused (number c.in-Err.refusal)) ≡ listing c.args.text.now
refused-line c =
    listing_refused c.args.text.now (length-replicate {A = ℕ} 129 0) (length-replicate {A = ℕ} 4096 0) c.in-Err.refusal c.in-Err.ensures

pub in_force-s-requires : goal.in_force-s-requires
in_force-s-requires c = let l = read (goal.at.in_force-s-requires c).In-Ok in (l.survey.some_node, l.survey.size)

pub invariant_of-survey : goal.invariant_of-survey
invariant_of-survey c = record { accepted = (read (goal.at.invariant_of-survey c).In-Ok).survey }

pub list_survey-requires : goal.list_survey-requires
list_survey-requires c = let l = read (goal.at.list_survey-requires c).In-Ok in omega arith

pub returns-in-Ok-clause-wrote : goal.returns-in-Ok-clause-wrote
returns-in-Ok-clause-wrote c =
    let l = read (goal.at.returns-in-Ok-clause-wrote c).In-Ok in
    rw (c.in_force-s.ensures, l.lines) at c.list_survey.ensures

pub returns-in-Ok-clause-bound : goal.returns-in-Ok-clause-bound
returns-in-Ok-clause-bound c =
    let l = read (goal.at.returns-in-Ok-clause-bound c).In-Ok in
    omega (arith, ap length l.lines, listing_few _ (in_force c.in-Ok.size.nodes 0) _ l.survey.lists.graph l.few)

pub returns-in-Err-clause-wrote : goal.returns-in-Err-clause-wrote
returns-in-Err-clause-wrote c = rw (refused-line (goal.at.returns-in-Err-clause-wrote c).In-Err) at c.list_refusal.ensures

pub returns-in-Err-clause-bound : goal.returns-in-Err-clause-bound
returns-in-Err-clause-bound c =
    omega (arith, ap length (refused-line (goal.at.returns-in-Err-clause-bound c).In-Err), refusal_few c.in-Err.refusal refl)
