-- Writing a walk: the answer, and what the walk list holds at return.
-- Assumes nothing.
use Rattle.std.specs.Prelude.{Result, not, List, [], ◌∷◌, ◌++◌, ℕ, ◌-◌, ltb, length, replicate}
use Rattle.std.proofs.Math.Option.{Option, none as missing, some}
use Rattle.model.specs.declared.Answer.{Answer}
use Rattle.model.specs.declared.Refusal.{Refusal}
use Rattle.model.specs.Answers.{Outcome, refused, answered, Refusals, ◌when◌, judged, outcome}
use Rattle.model.specs.Basics.{none}
use Rattle.std.specs.Prelude.{if◌then◌else◌}
use Rattle.model.specs.Survey.{Graph, neighbours_of, bad_size, short_starts, is_survey}
use Rattle.model.specs.Threshold.{in_force, bad_threshold}
use Rattle.model.specs.Tables.{short_tables}
use Rattle.model.specs.Pair.{bad_pair, pair}
use Rattle.model.specs.Walk.{walk_nodes}

-- the answer, and what the walk list holds at return (rule 10.9)
pub record AfterWalking : Type 0 where
  pub answer : Outcome Answer
  pub walk : List ℕ

-- what a call of the code returned and left (rule 10.9)
abbrev pub walk_returned : Result Answer Refusal → List ℕ → AfterWalking
walk_returned r w = record { answer = outcome r; walk = w }

-- rule 10.9: the walk is refused with number k, and the walk list, of w entries, is all none
unfoldable pub refuse_walk : ℕ → ℕ → AfterWalking
refuse_walk w k = record { answer = refused k; walk = replicate w none }

-- rule 10.9: refused 11 where the nodes are missing, 8 where the list has fewer entries than there are nodes; else the nodes, and none
-- after them. l has report + 1 nodes, and is empty where there is no route (`walking_short` of proofs/Demand.antt)
unfoldable pub fit : ℕ → Answer → Option (List ℕ) → AfterWalking
fit w x missing = refuse_walk w 11
fit w x (some l) =
    if ltb w (length l) then refuse_walk w 8
    else record { answer = answered x; walk = l ++ replicate (w - length l) none }

-- rule 10.9: the answer, or the refusal, is the pair's
unfoldable pub walk_of : ℕ → (n s : ℕ) → Graph → (full low : List ℕ) (a b : ℕ) → Outcome Answer → AfterWalking
walk_of w n s G full low a b (refused k) = refuse_walk w k
walk_of w n s G full low a b (answered x) = fit w x (walk_nodes n s G full low a b x.route)

-- rule 10.9: the refusals in their order, up to 10
abbrev pub walk_refusals : (n t : ℕ) (starts neighbours full low report : List ℕ) (a b : ℕ) → Refusals
walk_refusals n t starts neighbours full low report a b =
    (2 when bad_size n)
    ∷ (14 when bad_threshold t)
    ∷ (8 when short_starts n (length starts))
    ∷ (8 when short_tables n (length full) (length low) (length report))
    ∷ (9 when not (is_survey n starts neighbours))
    ∷ (10 when bad_pair n a b)
    ∷ []

-- rule 10.9: refused, or the walk with the threshold in force where the caller gives t, and the rest of the refusals
unfoldable pub walking : (n t : ℕ) (starts neighbours full low report : List ℕ) (a b w : ℕ) → AfterWalking
walking n t starts neighbours full low report a b w =
    judged (refuse_walk w) (walk_refusals n t starts neighbours full low report a b)
    (walk_of w n (in_force n t) (neighbours_of starts neighbours) full low a b (pair n full low report a b))
