-- An accepted survey as a test and as facts, each from the other; and what the facts say of its graph.
-- Assumes nothing.
use mathlib.Core.Path.{◌≡◌, refl, ap, ◌∙◌}
use mathlib.Core.Logic.{⊎_elim, ◌↔◌}
use mathlib.Core.Bool.{Bool, true, false, not, ◌&&◌}
use mathlib.Core.List.{List}
use Prim.Native.Nat.{ℕ, ◌+◌, ◌/◌, ◌%◌, ◌≤◌, ◌<◌}
use native.Mathlib.Omega.{arith}
use borrow.Author.Tests.{le-ltb, ltb-false}
use lib.Dec.{T, eqb, ltb, leb, eqb→eq, leb→le, le→leb, ltb→lt, lt→ltb, T_not, not_T}
use lib.ListN.{length, get_or}
use Rattle.model.specs.Answers.{Outcome, refused, answered, is_answered}
use Rattle.model.specs.Basics.{up_to, has, all, keep}
use Rattle.model.specs.Survey.{Graph, neighbours_of, ascending, is_survey, outside, bad_size, short_starts, accept_refusals, accepting}
use Rattle.model.specs.Survey.{accepted, IsSurvey, IsGraph, Accepted}
use Rattle.model.specs.Graph.{linked}
use Rattle.model.proofs.Outcomes.{judged_done, of_judged}
use Rattle.model.proofs.Tests.{not-not, passed, and_l, and_r, and_i, or-false, of_or_false, same_test, eq_T}
use Rattle.model.proofs.Lists.{of_all, all_of, has_up_to, of_up_to, keep_same, keep_grows, keep_length, length_up_to}
use Rattle.model.proofs.Ascending.{ascending_keep}

module _ (n : ℕ) (starts neighbours : List ℕ) where
  -- what is asked of an entry x of node v
  own : ℕ → ℕ → Bool
  own v x = ltb x n && not (eqb x v) && has v (neighbours_of starts neighbours x)

  -- each of the seven tests is one fact
  survey_both : T (is_survey n starts neighbours) ↔ IsSurvey n starts neighbours
  unfolding is_survey own
  survey_both =
      let G : Graph = neighbours_of starts neighbours in
      let last = get_or starts n 0 in
      let A = eqb (get_or starts 0 0) 0 in
      let B = all (λ v. leb (get_or starts v 0) (get_or starts (v + 1) 0)) (up_to n) in
      let C = eqb (last % 2) 0 in
      let D = leb (last / 2) 16384 in
      let E = leb last (length neighbours) in
      let F = all (λ v. ascending (G v)) (up_to n) in (
        λ t.
            let t6 = and_l (A && B && C && D && E && F) _ t in
            let t5 = and_l (A && B && C && D && E) _ t6 in
            let t4 = and_l (A && B && C && D) _ t5 in
            let t3 = and_l (A && B && C) _ t4 in
            let t2 = and_l (A && B) _ t3 in
            let own_facts : (v x : ℕ) → v < n → T (has x (G v)) → T (own v x) =
            λ v x h m. of_all (λ x. own v x) _
            (of_all (λ v. all (λ x. own v x) (G v)) _ (and_r (A && B && C && D && E && F) _ t) _ (has_up_to _ _ h)) _ m in
            record {
              first = eqb→eq _ _ (and_l A _ t2);
              rising = λ v h. leb→le _ _ (of_all (λ v. leb (get_or starts v 0) (get_or starts (v + 1) 0)) _ (and_r A _ t2) _ (has_up_to _ _ h));
              even = eqb→eq _ _ (and_r (A && B) _ t3);
              few_links = leb→le _ _ (and_r (A && B && C) _ t4);
              within = leb→le _ _ (and_r (A && B && C && D) _ t5);
              sorted = λ v h. of_all (λ v. ascending (G v)) _ (and_r (A && B && C && D && E) _ t6) _ (has_up_to _ _ h);
              loopless = λ v x h m e. T_not (eqb x v)
                  (and_r (ltb x n) (not (eqb x v)) (and_l (ltb x n && not (eqb x v)) _ (own_facts v x h m))) (eq_T _ _ e);
              graph = record {
                below =
                    λ v x h m. ltb→lt _ _ (and_l (ltb x n) (not (eqb x v)) (and_l (ltb x n && not (eqb x v)) _ (own_facts v x h m)));
                symmetric = λ v x h m. and_r (ltb x n && not (eqb x v)) _ (own_facts v x h m);
              };
            },
        λ s.
            and_i (A && B && C && D && E && F) _
            (and_i (A && B && C && D && E) _
            (and_i (A && B && C && D) _
            (and_i (A && B && C) _
            (and_i (A && B) _
            (and_i A _ (eq_T _ _ s.first)
            (all_of (λ v. leb (get_or starts v 0) (get_or starts (v + 1) 0)) _
            (λ v h. le→leb _ _ (s.rising v (of_up_to _ _ h)))))
            (eq_T _ _ s.even))
            (le→leb _ _ s.few_links))
            (le→leb _ _ s.within))
            (all_of (λ v. ascending (G v)) _ (λ v h. s.sorted v (of_up_to _ _ h))))
            (all_of (λ v. all (λ x. own v x) (G v)) _ (λ v h.
            all_of (λ x. own v x) _ (λ x m.
            let b = of_up_to _ _ h in
            and_i (ltb x n && not (eqb x v)) _
            (and_i (ltb x n) _ (lt→ltb _ _ (s.graph.below v x b m)) (not_T (eqb x v) (λ e. s.loopless v x b m (eqb→eq _ _ e))))
            (s.graph.symmetric v x b m)))),
      )

  pub survey_facts : T (is_survey n starts neighbours) → IsSurvey n starts neighbours
  survey_facts = survey_both.0

  pub survey_test : IsSurvey n starts neighbours → T (is_survey n starts neighbours)
  survey_test = survey_both.1

-- ---- the same for acceptance

-- n is not outside exactly where it is from 1 to the limit
pub in_range : (most n : ℕ) → 1 ≤ n → n ≤ most → outside most n ≡ false
in_range most n p q = or-false _ _ (le-ltb _ _ p) (le-ltb _ _ q)

pub of_in_range : (most n : ℕ) → outside most n ≡ false → (1 ≤ n) × (n ≤ most)
of_in_range most n e = let h = of_or_false _ _ e in (ltb-false _ _ h.0, ltb-false _ _ h.1)

pub good_size : (n : ℕ) → 1 ≤ n → n ≤ 1024 → bad_size n ≡ false
unfolding bad_size
good_size = in_range 1024

pub size_bounds : (n : ℕ) → bad_size n ≡ false → (1 ≤ n) × (n ≤ 1024)
unfolding bad_size
size_bounds = of_in_range 1024

module _ (n : ℕ) (starts neighbours : List ℕ) where
  -- the facts, where none of the three tests refuses; and the other way round
  pub tests_facts : bad_size n ≡ false → short_starts n (length starts) ≡ false → not (is_survey n starts neighbours) ≡ false
      → Accepted n starts neighbours
  tests_facts size room lists = let b = size_bounds _ size in record {
    some_node = b.0;
    size = b.1;
    room = ltb-false _ _ room;
    lists = survey_facts _ _ _ (not-not (is_survey n starts neighbours) lists);
  }

  module _ (f : Accepted n starts neighbours) where
    pub sized : bad_size n ≡ false
    sized = good_size n f.some_node f.size

    pub starts_long : short_starts n (length starts) ≡ false
    starts_long = le-ltb (length starts) (n + 1) f.room

    pub is_survey_lem : not (is_survey n starts neighbours) ≡ false
    is_survey_lem = passed (is_survey n starts neighbours) (survey_test n starts neighbours f.lists)

  pub accepted_facts : T (accepted n starts neighbours) → Accepted n starts neighbours
  unfolding accepted accepting
  accepted_facts =
      of_judged (λ (o : Outcome (Unit {0})). T (is_answered o) → Accepted n starts neighbours) refused (accept_refusals n starts neighbours) _
      (λ k t. absurd t) (λ p t. tests_facts p.0 p.1.0 p.1.1.0)

  -- what is accepted is not refused, and the other way round
  pub accepting_answers : Accepted n starts neighbours → accepting n starts neighbours ≡ answered tt
  unfolding accepting
  accepting_answers f = judged_done refused (accept_refusals n starts neighbours) _ (sized f, (starts_long f, (is_survey_lem f, tt)))

  pub accepting_facts : (x : Unit {0}) → accepting n starts neighbours ≡ answered x → Accepted n starts neighbours
  unfolding accepted
  accepting_facts x e = accepted_facts (rw e tt)

  pub facts_accepted : Accepted n starts neighbours → T (accepted n starts neighbours)
  unfolding accepted
  facts_accepted f = rw (accepting_answers f) tt

-- ---- accepted lists are an undirected graph without loops on n nodes, whatever stands past the entries used

module _ (n : ℕ) (G : Graph) where
  -- what a link says
  pub record Link (a b : ℕ) : Type 0 where
    pub first : a < n
    pub second : b < n
    pub there : T (has b (G a))
    pub back : T (has a (G b))

  pub linked_is : (a b : ℕ) → T (linked n G a b) → Link a b
  unfolding linked
  linked_is a b t =
      let A = ltb a n in
      let B = ltb b n in
      let C = has b (G a) in
      record {
        first = ltb→lt _ _ (and_l A B (and_l (A && B) C (and_l (A && B && C) _ t)));
        second = ltb→lt _ _ (and_r A B (and_l (A && B) C (and_l (A && B && C) _ t)));
        there = and_r (A && B) C (and_l (A && B && C) _ t);
        back = and_r (A && B && C) _ t;
      }

  pub is_linked : (a b : ℕ) → Link a b → T (linked n G a b)
  unfolding linked
  is_linked a b l =
      let A = ltb a n in
      let B = ltb b n in
      let C = has b (G a) in
      and_i (A && B && C) _ (and_i (A && B) _ (and_i A _ (lt→ltb _ _ l.first) (lt→ltb _ _ l.second)) l.there) l.back

  pub linked_has : (a b : ℕ) → T (linked n G a b) → T (has b (G a))
  linked_has a b t = (linked_is _ _ t).there

  pub linked_ends : (a b : ℕ) → a < n → T (linked n G a b) → b < n
  linked_ends a b h t = (linked_is _ _ t).second

  pub linked_sym : (a b : ℕ) → T (linked n G a b) → T (linked n G b a)
  linked_sym a b t =
      let l = linked_is _ _ t in is_linked _ _ (record { first = l.second; second = l.first; there = l.back; back = l.there })

  -- in a graph, each neighbour is linked
  pub linked_of : IsGraph n G → (a b : ℕ) → a < n → T (has b (G a)) → T (linked n G a b)
  linked_of g a b h m = is_linked _ _ (record { first = h; second = g.below a b h m; there = m; back = g.symmetric a b h m })

  pub linked_own : IsGraph n G → (a b : ℕ) → a < n → linked n G a b ≡ has b (G a)
  linked_own g a b h = same_test _ _ (linked_has a b) (linked_of g a b h)

module _ (n : ℕ) (starts neighbours : List ℕ) (acc : Accepted n starts neighbours) where
  abbrev pub graph : Graph
  graph = neighbours_of starts neighbours

  pub no_loop : (a : ℕ) → T (linked n (neighbours_of starts neighbours) a a) → ⊥
  no_loop a t = let l = linked_is _ _ _ _ t in acc.lists.loopless a a l.first l.there refl

  -- the neighbour count is the number of linked nodes
  pub degree : (v : ℕ) → v < n
      → length (keep (linked n (neighbours_of starts neighbours) v) (up_to n)) ≡ length (neighbours_of starts neighbours v)
  degree v h =
      ap length (
      keep_same _ _ _
      (λ x m. linked_has _ _ _ _) (λ x m. linked_of _ _ acc.lists.graph _ _ h)
      ∙ ascending_keep _ _ (acc.lists.sorted v h) (λ x m. acc.lists.graph.below v x h m)
      )

  -- so a node has fewer than n neighbours
  pub few_neighbours : (v : ℕ) → v < n → length (neighbours_of starts neighbours v) < n
  few_neighbours v h = ⊎_elim
      (λ f. absurd (no_loop v (f v (has_up_to n v h) tt)))
      (λ l. omega (arith, degree v h, keep_length (λ x. true) (up_to n), length_up_to n))
      (keep_grows (linked n graph v) (λ x. true) (up_to n) (λ x m t. tt))
