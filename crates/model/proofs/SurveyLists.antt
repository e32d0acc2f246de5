-- The two lists of a graph. They give each node's neighbours back; a survey's lists are those of its own graph; and entries past those
-- used make no difference.
-- Assumes nothing.
use mathlib.Core.Path.{◌≡◌, refl, sym, ap, ap₂, ◌∙◌, subst}
use mathlib.Core.Bool.{Bool, not}
use mathlib.Core.List.{List, [], ◌∷◌, ◌++◌, map, append_assoc}
use Prim.Native.Nat.{ℕ, zero, suc, ◌+◌, ◌-◌, ◌≤◌, ◌<◌, min}
use native.Mathlib.Nat.{add-zero}
use native.Mathlib.Numerals.{add-one}
use native.Mathlib.Omega.{arith}
use lib.Dec.{T, ltb, ltb→lt, lt→ltb}
use lib.ListN.{length, get_or, take, drop, length-append, length-take, get_or-append}
use lib.Seq.{take-nil, take_at, drop_at, take-take, take-add, get_or-take, ext_get_or}
use Rattle.model.specs.Answers.{refused, answered}
use Rattle.model.specs.Basics.{from, up_to, has, gather}
use Rattle.std.specs.Prelude.{if◌then◌else◌}
use Rattle.model.specs.Survey.{Graph, neighbours_of, is_survey, bad_size, accepting, IsSurvey, Accepted}
use Rattle.model.specs.Graph.{linked}
use Rattle.model.specs.Reading.{starts_of, neighbours_from}
use Rattle.model.proofs.Tests.{same_test}
use Rattle.model.proofs.Lists.{gather_append, gather_same, gather_suc, from_split, of_up_to}
use Rattle.model.proofs.Entries.{get_d_row, length_row}
use Rattle.model.proofs.Acceptance.{survey_test, survey_facts, linked_is, is_linked}

-- how many neighbours the nodes below v have
unfoldable pub total : Graph → ℕ → ℕ
total G v = length (gather G (up_to v))

pub total_zero : (G : Graph) → total G 0 ≡ 0
unfolding total up_to from gather
total_zero G = refl

pub total_suc : (G : Graph) (v : ℕ) → total G (suc v) ≡ total G v + length (G v)
unfolding total
total_suc G v = ap length (gather_suc _ _) ∙ length-append (gather G (up_to v)) _

pub starts_length : (n : ℕ) (G : Graph) → length (starts_of n G) ≡ n + 1
unfolding starts_of
starts_length n G = length_row _ _

pub neighbours_length : (n : ℕ) (G : Graph) → length (neighbours_from n G) ≡ total G n
unfolding neighbours_from total
neighbours_length n G = refl

-- ---- each node's neighbours are read back

module _ (n : ℕ) (G : Graph) (more others : List ℕ) where
  pub start_at : (v : ℕ) → v ≤ n → get_or (starts_of n G ++ more) v 0 ≡ total G v
  unfolding starts_of total
  start_at v h =
      let row = map (λ v. length (gather G (up_to v))) (up_to (n + 1)) in
      get_or-append row more 0 v (omega (arith, starts_length n G, h))
      ∙ get_d_row _ _ _ _ (omega arith)

  pub own_at : (v : ℕ) → v < n → neighbours_of (starts_of n G ++ more) (neighbours_from n G ++ others) v ≡ G v
  unfolding neighbours_of neighbours_from total gather
  own_at v h =
      let k = n - suc v in
      let split : gather G (up_to n) ++ others ≡ gather G (up_to v) ++ (G v ++ (gather G (from (suc v) k) ++ others)) =
      ap (λ (l : List ℕ). gather G l ++ others) (from_split v k n (omega arith))
      ∙ ap (λ (l : List ℕ). l ++ others) (gather_append _ (up_to v) (v ∷ from (suc v) k))
      ∙ simp append_assoc in
      let first = start_at v (omega arith) in
      let second = start_at (v + 1) (omega arith) ∙ ap (total G) (add-one v) ∙ total_suc G v in
      let size : get_or (starts_of n G ++ more) (v + 1) 0 - get_or (starts_of n G ++ more) v 0 ≡ length (G v) = omega (arith, first, second) in
      ap₂ (λ (i : ℕ) (l : List ℕ). take i l) size (
      ap₂ drop first split ∙ drop_at (gather G (up_to v)) (G v ++ (gather G (from (suc v) k) ++ others)) (total G v) refl
      )
      ∙ take_at (G v) (gather G (from (suc v) k) ++ others) (length (G v)) refl

-- ---- graphs with the same neighbours have the same lists

module _ (n : ℕ) (G H : Graph) (same : (v : ℕ) → v < n → G v ≡ H v) where
  pub gather_below : (v : ℕ) → v ≤ n → gather G (up_to v) ≡ gather H (up_to v)
  gather_below v h = gather_same _ _ _ (λ x m. same x (let l = of_up_to _ _ m in omega arith))

  pub neighbours_same : neighbours_from n G ≡ neighbours_from n H
  unfolding neighbours_from
  neighbours_same = gather_below _ (omega arith)

  pub starts_same : starts_of n G ≡ starts_of n H
  unfolding starts_of
  starts_same =
      let f : ℕ → ℕ = λ v. length (gather G (up_to v)) in
      ext_get_or 0 _ _ (length_row _ _ ∙ sym (length_row _ _)) (λ i h.
      let b : i < n + 1 = omega (arith, length_row f (n + 1)) in
      get_d_row _ _ _ _ b ∙ ap length (gather_below _ (omega arith)) ∙ sym (get_d_row _ _ _ _ b))

-- where no start is less than the one before, none is above the last
module _ (n : ℕ) (starts : List ℕ) (rising : (v : ℕ) → v < n → get_or starts v 0 ≤ get_or starts (v + 1) 0) where
  rises : (k v : ℕ) → v + k ≡ n → get_or starts v 0 ≤ get_or starts n 0
  rises zero v e = subst (λ (x : ℕ). get_or starts v 0 ≤ get_or starts x 0) (sym (add-zero _) ∙ e) (omega arith)
  rises (suc k) v e = omega (arith, rises k (v + 1) (omega arith), rising v (omega arith))

  pub start_last : (v : ℕ) → v ≤ n → get_or starts v 0 ≤ get_or starts n 0
  start_last v h = rises (n - v) v (omega arith)

-- ---- a survey's lists are those of its graph

module _ {n : ℕ} {starts neighbours : List ℕ} (s : IsSurvey n starts neighbours) where
  -- the neighbours of the nodes below v are the entries up to v's start
  pub front : (v : ℕ) → v ≤ n → gather (neighbours_of starts neighbours) (up_to v) ≡ take (get_or starts v 0) neighbours
  unfolding up_to from gather neighbours_of
  front zero h = ap (λ (k : ℕ). take k neighbours) (sym s.first)
  front (suc v) h =
      let a = get_or starts v 0 in
      let b = get_or starts (v + 1) 0 in
      let own : List ℕ = take (b - a) (drop a neighbours) in
      let r = s.rising v h in
      let e : a + (b - a) ≡ b = omega arith in
      gather_suc (neighbours_of starts neighbours) v
      ∙ ap (λ (x : List ℕ). x ++ own) (front v (omega arith))
      ∙ sym (take-add a _ _)
      ∙ ap (λ (k : ℕ). take k neighbours) (e ∙ ap (λ (k : ℕ). get_or starts k 0) (add-one _))

  pub own_total : (v : ℕ) → v ≤ n → total (neighbours_of starts neighbours) v ≡ get_or starts v 0
  unfolding total
  own_total v h =
      ap length (front _ h) ∙ length-take (get_or starts v 0) neighbours ∙ omega (arith, start_last n starts s.rising v h, s.within)

  pub own_neighbours : neighbours_from n (neighbours_of starts neighbours) ≡ take (get_or starts n 0) neighbours
  unfolding neighbours_from
  own_neighbours = front _ (omega arith)

  pub own_starts : n + 1 ≤ length starts → starts_of n (neighbours_of starts neighbours) ≡ take (n + 1) starts
  unfolding starts_of total
  own_starts room =
      let f : ℕ → ℕ = λ v. length (gather (neighbours_of starts neighbours) (up_to v)) in
      ext_get_or _ _ _ (length_row _ _ ∙ omega (arith, length-take (n + 1) starts)) (λ i h.
      let b : i < n + 1 = omega (arith, length_row f (n + 1)) in
      get_d_row _ _ _ _ b ∙ own_total _ (omega arith) ∙ sym (get_or-take _ _ _ _ b))

-- ---- what stands past the entries used makes no difference

-- a part that lies within the first m entries
part_front : (a k m : ℕ) (l : List ℕ) → a + k ≤ m → take k (drop a (take m l)) ≡ take k (drop a l)
part_front zero k m l h = take-take k m l (omega arith)
part_front (suc a) k m [] h = ap (λ (l : List ℕ). take k (drop (suc a) l)) (take-nil m)
part_front (suc a) k zero (x ∷ l) h = absurd (omega arith)
part_front (suc a) k (suc m) (x ∷ l) h = part_front a k m l (omega arith)

-- two pairs of lists that agree on the entries used: starts up to n, neighbours up to the last start
pub record Agree (n : ℕ) (starts neighbours starts' neighbours' : List ℕ) : Type 0 where
  pub starts_used : take (n + 1) starts ≡ take (n + 1) starts'
  pub neighbours_used : take (get_or starts n 0) neighbours ≡ take (get_or starts n 0) neighbours'

module _ {n : ℕ} {starts neighbours starts' neighbours' : List ℕ} (e : Agree n starts neighbours starts' neighbours') where
  same_start : (v : ℕ) → v ≤ n → get_or starts v 0 ≡ get_or starts' v 0
  same_start v h =
      sym (get_or-take (n + 1) starts v 0 (omega arith)) ∙ (rw e.starts_used)
      ∙ get_or-take (n + 1) starts' v 0 (omega arith)

  -- the same with the two pairs exchanged
  agree_sym : Agree n starts' neighbours' starts neighbours
  agree_sym = record {
    starts_used = sym e.starts_used;
    neighbours_used = subst (λ (k : ℕ). take k neighbours' ≡ take k neighbours) (same_start _ (omega arith)) (sym e.neighbours_used);
  }

  -- a survey's nodes have the same neighbours in both
  past_own' : IsSurvey n starts neighbours → (v : ℕ) → v < n → neighbours_of starts neighbours v ≡ neighbours_of starts' neighbours' v
  unfolding neighbours_of
  past_own' s v h =
      let a = get_or starts v 0 in
      let b = get_or starts (v + 1) 0 in
      let m = get_or starts n 0 in
      let u = s.rising v h in
      let r = start_last _ starts s.rising (v + 1) (omega arith) in
      let w : a + (b - a) ≤ m = omega arith in
      sym (part_front a (b - a) m neighbours w)
      ∙ (rw e.neighbours_used)
      ∙ part_front a (b - a) m neighbours' w
      ∙ ap₂ (λ (i j : ℕ). take (j - i) (drop i neighbours')) (same_start v (omega arith)) (same_start (v + 1) (omega arith))

  survey_past : IsSurvey n starts neighbours → IsSurvey n starts' neighbours'
  survey_past s =
      let last = same_start n (omega arith) in
      let there : (v x : ℕ) → v < n → T (has x (neighbours_of starts' neighbours' v)) → T (has x (neighbours_of starts neighbours v)) =
      λ v x h m. rw (past_own' s v h) m in
      record {
        first = sym (same_start 0 (omega arith)) ∙ s.first;
        rising = λ v h. let u = s.rising v h in omega (arith, same_start v (omega arith), same_start (v + 1) (omega arith));
        even = rw last at s.even;
        few_links = rw last at s.few_links;
        within = omega (
          arith,
          last,
          s.within,
          length-take (get_or starts n 0) neighbours,
          length-take (get_or starts n 0) neighbours',
          ap length e.neighbours_used,
        );
        sorted = λ v h. rw (past_own' s v h) at (s.sorted v h);
        loopless = λ v x h m. s.loopless v x h (there v x h m);
        graph = record {
          below = λ v x h m. s.graph.below v x h (there v x h m);
          symmetric = λ v x h m. let t = there v x h m in
              rw (past_own' s x (s.graph.below v x h t)) at (s.graph.symmetric v x h t);
        };
      }

module _ (n : ℕ) (starts neighbours starts' neighbours' : List ℕ) (e : Agree n starts neighbours starts' neighbours') where
  -- both are accepted, or both are refused with the same number
  pub past_ignored : accepting n starts neighbours ≡ accepting n starts' neighbours'
  unfolding accepting
  past_ignored =
      ap₂ (λ (p q : Bool). if bad_size n then refused 2 else if p then refused 8 else if not q then refused 9 else answered tt) short lists
    where
      size : min (n + 1) (length starts) ≡ min (n + 1) (length starts')
      size = sym (length-take _ _) ∙ ap length e.starts_used ∙ length-take _ _

      short : ltb (length starts) (n + 1) ≡ ltb (length starts') (n + 1)
      short = same_test _ _
          (λ t. lt→ltb _ (n + 1) (omega (arith, size, ltb→lt (length starts) (n + 1) t)))
          (λ t. lt→ltb _ (n + 1) (omega (arith, size, ltb→lt (length starts') (n + 1) t)))

      lists : is_survey n starts neighbours ≡ is_survey n starts' neighbours'
      lists = same_test _ _
          (λ t. survey_test _ _ _ (survey_past e (survey_facts _ _ _ t)))
          (λ t. survey_test _ _ _ (survey_past (agree_sym e) (survey_facts _ _ _ t)))

  -- and where they are accepted, the nodes have the same neighbours and the same links
  module _ (acc : Accepted n starts neighbours) where
    pub past_own : (v : ℕ) → v < n → neighbours_of starts neighbours v ≡ neighbours_of starts' neighbours' v
    past_own = past_own' e acc.lists

    pub past_linked : (a b : ℕ) → linked n (neighbours_of starts neighbours) a b ≡ linked n (neighbours_of starts' neighbours') a b
    past_linked a b = same_test _ _ (on G H past_own) (on H G (λ v h. sym (past_own _ h)))
      where
        G : Graph
        G = neighbours_of starts neighbours

        H : Graph
        H = neighbours_of starts' neighbours'

        on : (I J : Graph) → ((v : ℕ) → v < n → I v ≡ J v) → T (linked n I a b) → T (linked n J a b)
        on I J f t =
            let l = linked_is _ I _ _ t in
            is_linked _ _ _ _ (record {
              first = l.first;
              second = l.second;
              there = rw (f a l.first) at l.there;
              back = rw (f b l.second) at l.back;
            })
