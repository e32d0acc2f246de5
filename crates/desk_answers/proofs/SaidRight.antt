-- What is said of an accepted survey is right, and a node is refused only if it is none of the survey's.
-- Assumes nothing.
use mathlib.Core.Path.{◌≡◌, ap, ◌∙◌, subst}
use mathlib.Core.Logic.{⊎_elim}
use mathlib.Core.List.{List}
use Prim.Native.Nat.{ℕ, ◌≤◌, ◌<◌}
use native.Mathlib.Omega.{arith}
use borrow.Author.Tests.{leb-true}
use lib.Dec.{T, leb, leb→le}
use Rattle.model.specs.declared.Answer.{Answer}
use Rattle.model.specs.Answers.{Outcome, answered}
use Rattle.model.specs.Survey.{Graph, neighbours_of, Accepted}
use Rattle.model.specs.Threshold.{in_force}
use Rattle.model.specs.Graph.{linked}
use Rattle.model.specs.Tables.{full_table, low_table, report_table}
use Rattle.model.specs.Pair.{bad_pair}
use Rattle.model.specs.Walking.{AfterWalking, walking}
use Rattle.model.proofs.Tests.{or_e, picked}
use Rattle.model.proofs.Demand.{asking_allowed, walking_sound, testing_right}
use Rattle.model.proofs.Listing.{rules_built}
use Rattle.model.proofs.Sizes.{built_enough}
use Rattle.desk_answers.specs.Said.{far_node, asked_said, pair_said, walked_said, walk_said, tested_said, test_said}
use Rattle.desk_answers.specs.Right.{RightPair, RightWalk, RightTest}

-- the node that is named is none of the n
pub far_right : (n a b : ℕ) → T (bad_pair n a b) → n ≤ far_node n a b
unfolding far_node
far_right n a b t = picked (λ v. n ≤ v) (leb n a) a b (leb-true n a)
    (λ e. ⊎_elim (λ h. absurd (subst T e h)) (leb→le n b) (or_e (leb n a) (leb n b) t))

module _ {n : ℕ} {starts neighbours : List ℕ} (acc : Accepted n starts neighbours) where
  abbrev G : Graph
  G = neighbours_of starts neighbours

  module _ {a b : ℕ} (ha : a < n) (hb : b < n) where
    -- by any threshold
    pub pair_right : (s : ℕ) → RightPair (linked n G) a b (pair_said n s G a b)
    unfolding pair_said asked_said
    pair_right s = let r = asking_allowed acc (rules_built n s G) ha hb in record {
      value = r.value;
      lines = ap (asked_said n a b) r.given;
      right = rw r.given at r;
    }

    -- by the threshold in force where t is given
    pub walk_right : (t : ℕ) → t ≤ 1024 → RightWalk (linked n G) a b (walk_said n t (in_force n t) starts neighbours a b)
    unfolding walk_said walked_said
    walk_right t small =
        let s = in_force n t in
        let own = rules_built n s G in
        let r = asking_allowed acc own ha hb in
        let w : AfterWalking = walking n t starts neighbours (full_table n s G) (low_table n s G) (report_table n s G) a b 2048 in
        let same : w.answer ≡ answered r.value =
        built_enough n t starts neighbours acc small (full_table n s G) (low_table n s G) (report_table n s G) own a b ha hb 2048
        (omega (arith, acc.size)) ∙ r.given in record {
          value = r.value;
          walk = w.walk;
          lines = ap (λ (o : Outcome Answer). walked_said n a b o w.walk) same;
          right = rw r.given at r;
          walked = walking_sound n t starts neighbours (full_table n s G) (low_table n s G) (report_table n s G) a b 2048 r.value same;
        }

  pub test_right : (t : ℕ) → t ≤ 1024 → RightTest n (linked n G) (test_said n t starts neighbours)
  unfolding test_said tested_said
  test_right t small = let r = testing_right n t starts neighbours acc small in record {
    value = r.value;
    lines = ap (tested_said t) r.given;
    right = r.right;
  }
