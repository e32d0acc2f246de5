-- The refusal of short lists, the hub of a route, and what writing a walk promises.
-- Assumes nothing.
use mathlib.Core.Path.{◌≡◌, refl, sym, ◌∙◌, subst}
use mathlib.Core.Bool.{true, false, not, ◌||◌}
use mathlib.Core.List.{List, [], ◌∷◌}
use Prim.Native.Nat.{ℕ, ◌<◌}
use native.Mathlib.Omega.{arith}
use Rattle.model.specs.declared.Route.TheVariants.{Through}
use Rattle.model.specs.declared.Answer.{Answer}
use Rattle.model.specs.declared.Route.{Route}
use Rattle.model.specs.Answers.{Outcome, answered, Refusals, ◌when◌, judged}
use Rattle.model.specs.Survey.{neighbours_of, bad_size, short_starts, is_survey}
use Rattle.model.specs.Threshold.{in_force, bad_threshold}
use Rattle.model.specs.Graph.{linked}
use Rattle.model.specs.Tables.{entry_at, short_tables}
use Rattle.model.specs.Pair.{bad_pair, taken, attaining, pair_by, pair}
use Rattle.model.specs.Walk.{walk_nodes}
use Rattle.model.specs.Walking.{AfterWalking, refuse_walk, walk_of, walking}
use Rattle.model.specs.Demand.{WalkSound, WalkRight}
use borrow.Author.Tests.{leb-false}
use lib.Dec.{leb}
use lib.ListN.{length}
use Rattle.model.proofs.Tests.{of_or_false}
use Rattle.survey_neighbours.specs.declared.Survey.{Survey}
use Rattle.survey_neighbours.specs.SurveyGraph.{graph}
use Rattle.answer_pair.specs.declared.Tables.{Tables}
use Rattle.answer_pair.specs.Tables.{AreOf}
use Rattle.walk_writing.specs.Ready.{Ready}
use Rattle.walk_writing.specs.declared.Pair.{Pair}
use Rattle.walk_writing.specs.Judged.{IsJudged}
use Rattle.model.proofs.Demand.{walking_sound, walking_right}
use Rattle.model.proofs.Outcomes.{never, promised, judged_either}
use Rattle.model.proofs.Walks.{Chosen, to_itself, to_none, to_link, to_low, to_hub_lem, bad_itself, bad_hub, chosen, attains}

-- `starts` or a table is too short
pub walk_short : (n t : ℕ) (starts neighbours full low report : List ℕ) (a b w : ℕ) → bad_size n ≡ false → bad_threshold t ≡ false
    → (short_starts n (length starts) || short_tables n (length full) (length low) (length report)) ≡ true
    → walking n t starts neighbours full low report a b w ≡ refuse_walk w 8
unfolding walking
walk_short n t starts neighbours full low report a b w size split h =
    let A = short_starts n (length starts) in
    let B = short_tables n (length full) (length low) (length report) in
    let rest : Refusals = (9 when not (is_survey n starts neighbours)) ∷ (10 when bad_pair n a b) ∷ [] in
    let done = walk_of w n (in_force n t) (neighbours_of starts neighbours) full low a b (pair n full low report a b) in
    let first : judged (refuse_walk w) ((8 when A || B) ∷ rest) done ≡ refuse_walk w 8 = rw h refl in
    rw (size, split) (judged_either (refuse_walk w) 8 A B rest done ∙ first)

-- the hub of an answer's route is a node
pub hub_below : (n : ℕ) (full low report : List ℕ) (a b : ℕ) {x : Answer} {h : ℕ}
    → pair n full low report a b ≡ answered x → x.route ≡ Through h → h < n
unfolding pair pair_by
hub_below n full low report a b {x} {h} e q = at (chosen a b r (entry_at n low a b) hub) e
  where
    r : ℕ
    r = entry_at n report a b

    hub : ℕ
    hub = attaining (taken n full a b) n full a b r

    at : {o : Outcome Answer} → Chosen a b r (entry_at n low a b) hub o → o ≡ answered x → h < n
    at (to_itself i z) e = let z : ◌≡◌ {A = ℕ} 0 1 = cc in absurd (omega arith)
    at (to_none i z) e = let z : ◌≡◌ {A = ℕ} 0 1 = cc in absurd (omega arith)
    at (to_link i z) e = let z : ◌≡◌ {A = ℕ} 0 1 = cc in absurd (omega arith)
    at (to_low i z o l) e = let z : ◌≡◌ {A = ℕ} 0 1 = cc in absurd (omega arith)
    at (to_hub_lem i z o l f) e = let s : hub ≡ h = cc in subst (λ (k : ℕ). k < n) s (attains (taken n full a b) n full a b r f).0
    at (bad_itself i z) e = never e
    at (bad_hub i z o l f) e = never e

-- what is known of a pair that the tables answer
pub ready : (survey : Survey) (tables : Tables) {n : ℕ} {full low report : List ℕ} {a b : ℕ} {x : Answer} → AreOf tables n full low report
    → survey.n ≡ n → bad_pair n a b ≡ false → answered x ≡ pair tables.n tables.full.now tables.low.now tables.report.now a b
    → Ready survey.n tables.n a b x
ready survey tables {n} {a = a} {b = b} of e inside q =
    let below = of_or_false (leb n a) (leb n b) inside in
    let first = leb-false _ _ below.0 in
    let last = leb-false _ _ below.1 in
    record {
      same = of.count ∙ sym e;
      first = rw e first;
      last = rw e last;
      hub = λ h r. rw (e, ← of.count) (hub_below _ _ _ _ a b (sym q) r);
    }

-- the nodes of a judged pair's walk
pub judged_nodes : (pair : Pair) {n : ℕ} {starts neighbours full low : List ℕ} {a b : ℕ} → IsJudged pair n starts neighbours full low a b
    → (s : ℕ) (r : Route)
    → walk_nodes pair.survey.n s (graph pair.survey) pair.tables.full.now pair.tables.low.now pair.a pair.b r
    ≡ walk_nodes n s (neighbours_of starts neighbours) full low a b r
judged_nodes pair j s r = rw (j.nodes, j.in_starts, j.in_neighbours, j.in_full, j.in_low, j.first, j.last)

-- what is left by the rules is sound and right
pub written : (n t : ℕ) (starts neighbours full low report : List ℕ) (a b w : ℕ) {r : AfterWalking}
    → r ≡ walking n t starts neighbours full low report a b w
    → (r ≡ walking n t starts neighbours full low report a b w)
    × (WalkSound (linked n (neighbours_of starts neighbours)) a b r
    × WalkRight n t starts neighbours full low report a b w r)
written n t starts neighbours full low report a b w e =
    promised (λ (r : AfterWalking). WalkSound (linked n (neighbours_of starts neighbours)) a b r
    × WalkRight n t starts neighbours full low report a b w r)
    (walking_sound n t starts neighbours full low report a b w, walking_right n t starts neighbours full low report a b w) e
