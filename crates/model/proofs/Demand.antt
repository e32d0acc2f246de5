-- Demand 3 for the calls themselves, with their refusals: for an accepted survey, and tables built from it.
-- Assumes nothing.
use mathlib.Core.Path.{◌≡◌, sym, ap, ◌∙◌, subst}
use mathlib.Core.Logic.{⊎_elim, ◌↔◌}
use mathlib.Core.Bool.{false}
use mathlib.Core.List.{List, ◌++◌}
use mathlib.Core.Option.{some}
use Prim.Native.Nat.{ℕ, ◌+◌, ◌-◌, ◌*◌, ◌≤◌, ◌<◌}
use native.Mathlib.Numerals.{add-one}
use native.Mathlib.Omega.{arith}
use borrow.Author.Tests.{le-ltb, lt-leb, leb-false}
use lib.Dec.{T}
use lib.ListN.{length, replicate, take, length-append, length-replicate}
use lib.Seq.{take_at}
use Rattle.model.specs.declared.Route.TheVariants.{NoRoute, Link}
use Rattle.model.specs.declared.Answer.{Answer}
use Rattle.model.specs.Answers.{Outcome, refused, answered}
use Rattle.model.specs.Basics.{none, over}
use Rattle.model.specs.Graph.{Edges, Chain, Fewest, linked}
use Rattle.model.specs.Survey.{Graph, neighbours_of, Accepted}
use Rattle.model.specs.Threshold.{in_force}
use Rattle.model.specs.Hubs.{hubs}
use Rattle.model.specs.Tables.{entry_at, full_table, low_table, report_table, AreBuilt, AreBuiltWith, short_tables, hub_list}
use Rattle.model.specs.Pair.{bad_pair, with_route, taken, attaining, pair_by, pair}
use Rattle.model.specs.Walk.{walk_nodes}
use Rattle.model.specs.TwoOrFour.{test_result}
use Rattle.model.specs.Building.{AfterBuilding, built, build_refusals, refuse_build, building}
use Rattle.model.specs.Asking.{ask_refusals, asking}
use Rattle.model.specs.Walking.{AfterWalking, refuse_walk, fit, walk_of, walk_refusals, walking}
use Rattle.model.specs.Testing.{test_refusals, testing}
use Rattle.model.specs.Demand.{AllowedAnswer, AskRight, WalkSound, WalkAnswers, WalkRight, RightVerdict, TestRight, BuildRight}
use Rattle.model.proofs.Outcomes.{never, number_in, judged_done, of_judged, judged_none}
use Rattle.model.proofs.Tests.{or-false, of_or_false, lt_or}
use Rattle.model.proofs.Chains.{walked_chain}
use Rattle.model.proofs.Acceptance.{sized, starts_long, is_survey_lem, tests_facts, no_loop}
use Rattle.model.proofs.Threshold.{good_threshold}
use Rattle.model.proofs.Entries.{front_length, length_table, long_tables, of_long_tables}
use Rattle.model.proofs.Covering.{hubs_length}
use Rattle.model.proofs.Allowance.{allowed, report_one, report_least, report_exact}
use Rattle.model.proofs.Walks.{Chosen, chosen, Given-out, refusal, no_way, walked, fit_short, fit_long, found_longer, walk_given_out}
use Rattle.model.proofs.BuiltWalks.{report_at, pair_linked, pair_built, walk_built, taken_right}
use Rattle.model.proofs.Verdicts.{verdict_right}

-- ---- lists that tables were built into have room for them

module _ {n s : ℕ} {G : Graph} {full low report : List ℕ} (own : AreBuilt n s G full low report) where
  pub full_room : n * n ≤ length full
  unfolding full_table
  full_room = front_length _ _ _ own.full_front (length_table _ _)

  pub low_room : n * n ≤ length low
  unfolding low_table
  low_room = front_length _ _ _ own.low_front (length_table _ _)

  pub report_room : n * n ≤ length report
  unfolding report_table
  report_room = front_length _ _ _ own.report_front (length_table _ _)

-- ---- building leaves the tables and the hub list built from the survey

pub hub_list_length : (n s : ℕ) (G : Graph) → length (hub_list n s G) ≡ n
unfolding hub_list
hub_list_length n s G =
    length-append (hubs n s G) (replicate (n - length (hubs n s G)) none)
    ∙ omega (arith, length-replicate (n - length (hubs n s G)) none, hubs_length n G s)

pub built_right : (n s : ℕ) (G : Graph) (full low report list : List ℕ)
    → AreBuiltWith n s G (built n s G full low report list).full (built n s G full low report list).low
    (built n s G full low report list).report (built n s G full low report list).hubs
unfolding built over full_table low_table report_table
built_right n s G full low report list = record {
  tables = record {
    full_front = take_at _ _ _ (length_table _ _);
    low_front = take_at _ _ _ (length_table _ _);
    report_front = take_at _ _ _ (length_table _ _);
  };
  hubs_front = take_at _ _ _ (hub_list_length _ _ _);
}

-- ---- a walk given out, from any tables

given_out_sound : (E : Edges) (a b w : ℕ) {r : AfterWalking} → Given-out E a b w r → WalkSound E a b r
given_out_sound E a b w (refusal k) x e f = never e
given_out_sound E a b w no_way x e f = let q : with_route none NoRoute ≡ x = cc in absurd (f (sym (ap (λ (y : Answer). y.report) q)))
given_out_sound E a b w (walked y l g m room) x e f =
    let q : y ≡ x = cc in
    let c : length l ≡ x.report + 1 = m ∙ (rw q) ∙ sym (add-one _) in
    let t : take (x.report + 1) (l ++ replicate (w - length l) none) ≡ l = take_at _ _ _ c in
    let i = walked_chain g in
    record {
      walked = rw t g;
      count = ap length t ∙ c;
      chain = subst (λ (k : ℕ). Chain E k a b) (omega (arith, i.1, c)) i.2;
    }

-- whatever is lent, a walk that is given out is a chain of the survey's links, of exactly the reported length
pub walking_sound : (n t : ℕ) (starts neighbours full low report : List ℕ) (a b w : ℕ)
    → WalkSound (linked n (neighbours_of starts neighbours)) a b (walking n t starts neighbours full low report a b w)
unfolding walking refuse_walk pair
walking_sound n t starts neighbours full low report a b w =
    of_judged (λ (r : AfterWalking). WalkSound (linked n (neighbours_of starts neighbours)) a b r) (refuse_walk w)
    (walk_refusals n t starts neighbours full low report a b) _ (λ k x e f. never e) (λ p.
    let lengths = p.1.1 in
    let survey = lengths.1.1 in
    let below = of_or_false _ _ survey.1.0 in
    let g = (tests_facts n starts neighbours p.0 lengths.0 survey.0).lists.graph in
    given_out_sound _ _ _ w (walk_given_out _ g full low (leb-false _ _ below.0) (leb-false _ _ below.1) _ report w))

-- ---- what an answer says of the refusals before it

pub asking_passed : (n : ℕ) (full low report : List ℕ) (a b : ℕ) {x : Answer} → asking n full low report a b ≡ answered x
    → (n * n ≤ length full) × (n * n ≤ length low) × (n * n ≤ length report) × (a < n) × (b < n) × (pair n full low report a b ≡ answered x)
unfolding asking
asking_passed n full low report a b e =
    let p = judged_none (ask_refusals n full low report a b) _ e in
    let r = of_long_tables n (length full) (length low) (length report) p.0.1.0 in
    let h = of_or_false _ _ p.0.1.1.0 in
    (r.0, r.1, r.2, leb-false n a h.0, leb-false n b h.1, p.1)

short_fit : (w : ℕ) (x : Answer) (l : List ℕ) → ((fit w x (some l)).answer ≡ refused 8) ↔ (w < length l)
unfolding refuse_walk
short_fit w x l = (
  λ q. ⊎_elim (λ h. h) (λ h. never (sym q ∙ ap (λ (r : AfterWalking). r.answer) (fit_long _ _ _ h))) (lt_or w (length l)),
  λ h. rw (fit_short _ _ _ h),
)

-- ---- an accepted survey

module _ {n : ℕ} {starts neighbours : List ℕ} (acc : Accepted n starts neighbours) where
  abbrev pub G : Graph
  G = neighbours_of starts neighbours

  -- the test is not refused, and its verdict is right, with every threshold that is not refused
  pub testing_answers : {t : ℕ} → t ≤ 1024 → testing n t starts neighbours ≡ answered (test_result n (in_force n t) G)
  unfolding testing
  testing_answers {t} small =
      judged_done refused (test_refusals n t starts neighbours) _
      (sized _ _ _ acc, (good_threshold t small, (starts_long _ _ _ acc, (is_survey_lem _ _ _ acc, tt))))

  testing_verdict : {t : ℕ} → t ≤ 1024 → RightVerdict n (linked n G) (testing n t starts neighbours)
  testing_verdict {t} small = record {
    value = test_result n (in_force n t) G;
    given = testing_answers small;
    right = verdict_right _ _ _ acc.lists.graph acc.size;
  }

  -- with tables that are long enough and two nodes below n, no refusal of asking and walking applies, up to 10
  module _ (full low report : List ℕ) (hf : n * n ≤ length full) (hl : n * n ≤ length low) (hr : n * n ≤ length report) {a b : ℕ}
      (ha : a < n) (hb : b < n) where
    below : bad_pair n a b ≡ false
    below = or-false _ _ (lt-leb _ _ ha) (lt-leb _ _ hb)

    fits : short_tables n (length full) (length low) (length report) ≡ false
    fits = long_tables _ _ _ _ hf hl hr

    pub asks : asking n full low report a b ≡ pair n full low report a b
    unfolding asking
    asks = judged_done refused (ask_refusals n full low report a b) _ (sized _ _ _ acc, (fits, (below, tt)))

    pub walks : {t : ℕ} → t ≤ 1024 → (w : ℕ)
        → walking n t starts neighbours full low report a b w ≡ walk_of w n (in_force n t) G full low a b (pair n full low report a b)
    unfolding walking
    walks {t} small w =
        judged_done (refuse_walk w) (walk_refusals n t starts neighbours full low report a b) _
        (sized _ _ _ acc, (good_threshold t small, (starts_long _ _ _ acc, (fits, (is_survey_lem _ _ _ acc, (below, tt))))))

  -- for any tables: where asking answers x and the walk's nodes are found, the walk is refused 8 exactly where there is a route and
  -- the walk list has fewer than report + 1 entries
  pub walking_short : {t : ℕ} → t ≤ 1024 → (full low report : List ℕ) (a b : ℕ) {x : Answer} → asking n full low report a b ≡ answered x
      → {l : List ℕ} → walk_nodes n (in_force n t) G full low a b x.route ≡ some l
      → (w : ℕ) → ((walking n t starts neighbours full low report a b w).answer ≡ refused 8) ↔ ((x.report ≡ none → ⊥) × (w < x.report + 1))
  unfolding pair pair_by walk_of
  walking_short {t} small full low report a b {x} e {l} f w =
      let p = asking_passed n full low report a b e in
      let r = entry_at n report a b in
      let c = subst (λ (q : Outcome Answer). Chosen a b r (entry_at n low a b) (attaining (taken n full a b) n full a b r) q) p.5
      (chosen a b r _ _) in
      let i = found_longer _ acc.lists.graph full low p.3 p.4 _ report x c l f w in
      let o : walking n t starts neighbours full low report a b w ≡ fit w x (some l) =
      walks full low report p.0 p.1 p.2 p.3 p.4 small w
      ∙ ap (walk_of w n (in_force n t) G full low a b) p.5
      ∙ ap (fit w x) f in
      let j = short_fit w x l in
      (λ q. i.0 (j.0 (sym (rw o) ∙ q)), λ h. rw o (j.1 (i.1 h)))

  -- tables built with any threshold
  module _ {s : ℕ} {full low report : List ℕ} (own : AreBuilt n s (neighbours_of starts neighbours) full low report) {a b : ℕ}
      (ha : a < n) (hb : b < n) where
    asked : asking n full low report a b ≡ pair n full low report a b
    asked = asks full low report (full_room own) (low_room own) (report_room own) ha hb

    -- asking is not refused, and answers the entry of Report
    pub asking_answers : (x : Answer) × (asking n full low report a b ≡ answered x) × (x.report ≡ entry_at n (report_table n s G) a b)
    unfolding pair
    asking_answers =
        let g = acc.lists.graph in
        let i = pair_built g acc.size own ha hb _ (taken_right g acc.size own ha hb) in (
          with_route (entry_at n report a b) i.0,
          asked ∙ i.1,
          report_at g acc.size own ha hb,
        )

    -- linked nodes are answered by the link
    linked_answer : {x : Answer} → asking n full low report a b ≡ answered x → T (linked n G a b) → x ≡ with_route 1 Link
    unfolding pair
    linked_answer {x} e t =
        let differ : a ≡ b → ⊥ = λ q. no_loop n starts neighbours acc b (rw q at t) in
        let by = asked ∙ pair_linked acc.lists.graph acc.size own ha hb (taken n full a b) differ t in
        let same : with_route 1 Link ≡ x = cc in
        sym same

    -- the report is none exactly where no chain joins the pair, else from the fewest links to two more; and 1 by the link for linked nodes
    pub asking_allowed : AllowedAnswer (linked n G) a b (asking n full low report a b)
    asking_allowed = let i = asking_answers in record {
      value = i.0;
      given = i.1;
      allowed = rw i.2 (allowed n s G acc.lists.graph acc.size a b ha hb);
      by_link_iff = (λ e. report_one s acc.lists.graph ha hb (sym i.2 ∙ ap (λ (x : Answer). x.report) e), linked_answer i.1);
      least = λ d f. rw i.2 (report_least s acc.lists.graph acc.size ha hb f.0);
    }

    -- a report of at most 2 is the fewest links
    pub asking_exact : {x : Answer} → asking n full low report a b ≡ answered x → x.report ≤ 2 → Fewest (linked n G) a b x.report
    asking_exact {x} e h =
        let i = asking_answers in
        let same : i.0 ≡ x = cc in
        let is : x.report ≡ entry_at n (report_table n s G) a b = ap (λ (y : Answer). y.report) (sym same) ∙ i.2 in
        rw is (report_exact s acc.lists.graph ha hb (rw is at h))

  -- and writing the walk answers as asking does, if the walk list has report + 1 entries or there is no route
  walking_answers : {t : ℕ} → t ≤ 1024 → {full low report : List ℕ} → AreBuilt n (in_force n t) (neighbours_of starts neighbours) full low report
      → {a b : ℕ} → a < n → b < n → (w : ℕ)
      → WalkAnswers w (asking n full low report a b) (walking n t starts neighbours full low report a b w)
  unfolding pair
  walking_answers {t} small {full} {low} {report} own {a} {b} ha hb w x e room =
      let g = acc.lists.graph in
      let p = taken_right g acc.size own ha hb in
      let i = pair_built g acc.size own ha hb (taken n full a b) p in
      let q : with_route (entry_at n report a b) i.0 ≡ x = cc (asked own ha hb, i.1) in
      (rw (walks full low report (full_room own) (low_room own) (report_room own) ha hb small w))
      ∙ walk_built g acc.size own ha hb (taken n full a b) p w
      (rw (← q) at room)
      ∙ sym (asked own ha hb) ∙ e

-- building into lists that are long enough
pub building_answers : (n t : ℕ) (starts neighbours : List ℕ) → Accepted n starts neighbours → t ≤ 1024 → (full low report list : List ℕ)
    → n * n ≤ length full → n * n ≤ length low → n * n ≤ length report → n ≤ length list
    → building n t starts neighbours full low report list ≡ built n (in_force n t) (neighbours_of starts neighbours) full low report list
unfolding building
building_answers n t starts neighbours acc small full low report list hf hl hr hh =
    let fits = long_tables n (length full) (length low) (length report) hf hl hr in
    judged_done (refuse_build full low report list) (build_refusals n t starts neighbours full low report list) _
    (sized _ _ _ acc, (good_threshold t small, (starts_long _ _ _ acc, (fits, (le-ltb (length list) n hh, (is_survey_lem _ _ _ acc, tt))))))

-- ---- what the calls promise, in the words of specs/Demand.antt

pub asking_right : (n : ℕ) (full low report : List ℕ) (a b : ℕ) → AskRight n full low report a b (asking n full low report a b)
asking_right n full low report a b s starts neighbours acc own = asking_allowed acc own

pub walking_right : (n t : ℕ) (starts neighbours full low report : List ℕ) (a b w : ℕ)
    → WalkRight n t starts neighbours full low report a b w (walking n t starts neighbours full low report a b w)
walking_right n t starts neighbours full low report a b w acc small own ha hb = (
  asking_allowed acc own ha hb,
  walking_answers acc small own ha hb w,
)

pub testing_right : (n t : ℕ) (starts neighbours : List ℕ) → TestRight n t starts neighbours (testing n t starts neighbours)
testing_right n t starts neighbours acc small = testing_verdict acc small

pub building_right : (n t : ℕ) (starts neighbours full low report list : List ℕ)
    → BuildRight n t starts neighbours (building n t starts neighbours full low report list)
unfolding building built number_in
building_right n t starts neighbours full low report list =
    of_judged (λ (r : AfterBuilding). BuildRight n t starts neighbours r) (refuse_build full low report list)
    (build_refusals n t starts neighbours full low report list) _ (λ _ k e. never e) (λ p k e.
    let lengths = p.1.1 in
    record {
      survey = tests_facts _ _ _ p.0 lengths.0 lengths.1.1.1.0;
      tables = built_right _ _ _ full _ _ _;
      count = sym (ap (number_in (λ i. i)) e);
    })
