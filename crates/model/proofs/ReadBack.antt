-- A text that reading accepts gives an accepted survey whose links are exactly the pairs that its lines name, and a survey written
-- and read again is the same survey.
-- Assumes nothing.
use mathlib.Core.Path.{◌≡◌, refl, sym, ap, ◌∙◌, subst, fun_ext}
use mathlib.Core.Logic.{◌⊎◌, inl, inr, ⊎_elim}
use mathlib.Core.Bool.{◌&&◌, ◌||◌, or_assoc}
use mathlib.Core.List.{List, [], ◌∷◌, ◌++◌, map}
use Prim.Native.Nat.{ℕ, zero, suc, ◌+◌, ◌-◌, ◌*◌, ◌/◌, ◌≤◌, ◌<◌, zero-le}
use native.Mathlib.Nat.{zero-add}
use native.Mathlib.Numerals.{add-one}
use native.Mathlib.Omega.{arith}
use borrow.Author.Tests.{lt-ltb, le-ltb}
use lib.Dec.{T, eqb, ltb, ltb→lt, lt→ltb}
use lib.ListN.{length, get_or, take, drop, replicate, length-append}
use lib.Seq.{take_at, get_or-drop, get_or-append-add}
use Rattle.std.specs.Prelude.{Result, Ok}
use Rattle.model.specs.declared.Refusal.{Refusal}
use Rattle.model.specs.declared.Size.{Size}
use Rattle.model.specs.Answers.{Outcome, refused, answered}
use Rattle.model.specs.Basics.{from, up_to, has, keep, gather, over}
use Rattle.model.specs.SurveyText.{ordered}
use Rattle.model.specs.Survey.{Graph, neighbours_of, ascending, Accepted}
use Rattle.model.specs.Graph.{linked}
use Rattle.model.specs.Reading.{named, Parsed, parse, graph_of, starts_of, neighbours_from, AfterReading, read_returned, reading_of, reading}
use Rattle.model.specs.Writing.{text_of, AfterWriting, writing_of, writing}
use Rattle.model.specs.Demand.{IsRead, ReadRight, as_read, WriteRight}
use Rattle.model.proofs.Tests.{picked, and_i, or_l, or_r, or_e, eq_T, no_false, same_test, lt_or}
use Rattle.model.proofs.Lists.{has_head, has_tail, of_cons, has_keep, of_keep, has_up_to, of_up_to, none_in}
use Rattle.model.proofs.Lists.{keep_same, keep_none, gather_same}
use Rattle.model.proofs.Ascending.{ascending_tail, ascending_above, keep_ascending, ascending_keep, keep_of_ascending}
use Rattle.model.proofs.Acceptance.{accepting_facts, accepting_answers, linked_is, is_linked}
use Rattle.model.proofs.Outcomes.{never, number_in}
use Rattle.model.proofs.Entries.{get_d_same}
use Rattle.model.proofs.Links.{AllFresh, Within, TextRead, parse_complete, parse_sound}
use Rattle.model.proofs.SurveyLists.{total, total_zero, total_suc, starts_length, neighbours_length, start_at, own_at}
use Rattle.model.proofs.SurveyLists.{gather_below, neighbours_same, starts_same, own_total, own_neighbours, own_starts}
use Rattle.model.proofs.Totals.{named_sym, named_cases, links_total}

-- ---- links that are all new: the nodes they name are below n and different

pub named_below : (n : ℕ) (ls done : List (ℕ × ℕ)) → AllFresh n done ls → (a b : ℕ) → T (named ls a b) → (a < n) × (b < n) × (a ≡ b → ⊥)
unfolding named
named_below n [] done f a b t = absurd t
named_below n (l ∷ ls) done f a b t =
    let g = f.0 in
    ⊎_elim
    (λ e. (omega (arith, g.below_a), omega (arith, g.below_b), λ q. g.different (e.0 ∙ q ∙ sym e.1)))
    (⊎_elim
    (λ e. (omega (arith, g.below_b), omega (arith, g.below_a), λ q. g.different (e.0 ∙ sym q ∙ sym e.1)))
    (named_below n ls (l ∷ done) f.1 a b))
    (named_cases l ls a b t)

-- ---- the lists of such links are accepted

module _ (n : ℕ) (ls : List (ℕ × ℕ)) (some_node : 1 ≤ n) (size : n ≤ 1024) (few : length ls ≤ 16384) (f : AllFresh n [] ls)
    (more others : List ℕ) where
  starts : List ℕ
  starts = starts_of n (graph_of n ls) ++ more

  neighbours : List ℕ
  neighbours = neighbours_from n (graph_of n ls) ++ others

  own : (v : ℕ) → v < n → neighbours_of starts neighbours v ≡ graph_of n ls v
  unfolding starts neighbours
  own = own_at _ _ _ _

  start : (v : ℕ) → v ≤ n → get_or starts v 0 ≡ total (graph_of n ls) v
  unfolding starts
  start = start_at _ _ _ others

  last : get_or starts n 0 ≡ 2 * length ls
  last = start _ (omega arith) ∙ links_total _ _ f

  -- a line names each neighbour of a node below n with that node
  own_named : (v x : ℕ) → v < n → T (has x (neighbours_of starts neighbours v)) → T (named ls v x)
  unfolding graph_of
  own_named v x h m = (of_keep _ _ _ (rw (own _ h) at m)).1

  named_own : (v x : ℕ) → T (named ls v x) → T (has x (neighbours_of starts neighbours v))
  unfolding graph_of
  named_own v x t =
      let b = named_below _ _ _ f _ _ t in
      rw (own _ b.0) (has_keep _ _ _ (has_up_to _ _ b.1) t)

  lists_accepted : Accepted n starts neighbours
  unfolding starts neighbours graph_of
  lists_accepted = record {
    some_node = some_node;
    size = size;
    room = omega (arith, length-append (starts_of n (graph_of n ls)) more, starts_length n (graph_of n ls));
    lists = record {
      first = start _ zero-le ∙ total_zero _;
      rising = λ v h.
          let a = start v (omega arith) in
          let b = start _ (omega arith) ∙ ap (total (graph_of n ls)) (add-one v) ∙ total_suc _ _ in
          omega arith;
      even = omega (arith, last);
      few_links = omega (arith, last);
      within =
          omega (arith, start n (omega arith), neighbours_length n (graph_of n ls), length-append (neighbours_from n (graph_of n ls)) others);
      sorted = λ v h. rw (own _ h) (keep_ascending _ _);
      loopless = λ v x h m e. (named_below _ _ _ f _ _ (own_named _ _ h m)).2 (sym e);
      graph = record {
        below = λ v x h m. (named_below _ _ _ f _ _ (own_named _ _ h m)).1;
        symmetric = λ v x h m. named_own _ _ (subst T (named_sym _ _ _) (own_named _ _ h m));
      };
    };
  }

  links_exactly : (a b : ℕ) → linked n (neighbours_of starts neighbours) a b ≡ named ls a b
  links_exactly a b =
      same_test _ _
      (λ t. let l = linked_is _ _ _ _ t in own_named _ _ l.first l.there)
      (λ t. let h = named_below _ _ _ f _ _ t in is_linked _ _ _ _ (record {
        first = h.0;
        second = h.1;
        there = named_own _ _ t;
        back = named_own _ _ (subst T (named_sym _ _ _) t);
      }))

-- the same of the lists that reading leaves, of p and q entries
module _ (p q : ℕ) (x : Parsed) (some_node : 1 ≤ x.nodes) (size : x.nodes ≤ 1024) (few : length x.links ≤ 16384)
    (f : AllFresh x.nodes [] x.links) where
  pub links_accepted : Accepted x.nodes (reading_of p q (answered x)).starts (reading_of p q (answered x)).neighbours
  unfolding reading_of over starts neighbours
  links_accepted = lists_accepted _ _ some_node size few f _ _

  pub links_linked : (a b : ℕ)
      → linked x.nodes (neighbours_of (reading_of p q (answered x)).starts (reading_of p q (answered x)).neighbours) a b
      ≡ named x.links a b
  unfolding reading_of over starts neighbours
  links_linked = links_exactly _ _ some_node size few f _ _

-- past n the starts read 0
past_starts : (n : ℕ) (G : Graph) (p v : ℕ) → n ≤ v → get_or (over (starts_of n G) (replicate p 0)) (v + 1) 0 ≡ 0
unfolding over
past_starts n G p v h =
    let s : List ℕ = starts_of n G in
    let i : v + 1 ≡ length s + (v - n) = omega (arith, starts_length n G) in
    ap (λ (k : ℕ). get_or (s ++ drop (length s) (replicate p 0)) k 0) i
    ∙ get_or-append-add s _ _ _
    ∙ get_or-drop (length s) _ _ _
    ∙ get_d_same p _ _

-- ---- what a text says, read within limits into lists of p and q entries

module _ (N M p q : ℕ) (nodes : N ≤ 1024) (links : M ≤ 16384) (text : List ℕ) (x : Parsed) (e : parse N M p q text ≡ answered x) where
  facts : TextRead N M p q text x
  facts = parse_sound N M p q text x e

  -- the lists are accepted
  pub read_accepted : Accepted x.nodes (reading_of p q (answered x)).starts (reading_of p q (answered x)).neighbours
  read_accepted = links_accepted _ _ _ facts.within.some_node (omega (arith, facts.within.size))
      (omega (arith, facts.within.few)) facts.fresh

  -- their links are those that the lines name
  pub read_exactly : (a b : ℕ)
      → linked x.nodes (neighbours_of (reading_of p q (answered x)).starts (reading_of p q (answered x)).neighbours) a b
      ≡ named x.links a b
  read_exactly = links_linked _ _ _ facts.within.some_node (omega (arith, facts.within.size))
      (omega (arith, facts.within.few)) facts.fresh

  -- their neighbours are those of the links, past n too
  pub read_graph : neighbours_of (reading_of p q (answered x)).starts (reading_of p q (answered x)).neighbours
      ≡ graph_of x.nodes x.links
  unfolding reading_of over neighbours_of graph_of
  read_graph = fun_ext (λ v. ⊎_elim (inside v) (outside v) (lt_or v x.nodes))
    where
      s : List ℕ
      s = over (starts_of x.nodes (graph_of x.nodes x.links)) (replicate p 0)

      l : List ℕ
      l = over (neighbours_from x.nodes (graph_of x.nodes x.links)) (replicate q 0)

      inside : (v : ℕ) → v < x.nodes → neighbours_of s l v ≡ graph_of x.nodes x.links v
      inside v h = own_at x.nodes (graph_of x.nodes x.links) _ _ v h

      outside : (v : ℕ) → x.nodes ≤ v → neighbours_of s l v ≡ graph_of x.nodes x.links v
      outside v h =
          let z : get_or s (v + 1) 0 - get_or s v 0 ≡ 0 = omega (arith, past_starts x.nodes (graph_of x.nodes x.links) p v h) in
          (rw z)
          ∙ sym (keep_none _ _
          (λ y m t. absurd (omega (arith, (named_below x.nodes x.links [] facts.fresh v _ t).0))))

-- what was read is an accepted survey, within the limit on its nodes
pub read_survey : (N M : ℕ) → N ≤ 1024 → M ≤ 16384 → (text : List ℕ) (p q : ℕ) (r : Result Size Refusal) (starts neighbours : List ℕ)
    → read_returned r starts neighbours ≡ reading_of p q (parse N M p q text) → (x : Size) → r ≡ Ok x
    → Accepted x.nodes starts neighbours × (x.nodes ≤ N)
unfolding reading_of number_in
read_survey N M nodes links text p q r starts neighbours e x i =
    at (parse N M p q text) refl (ap (λ (z : Result Size Refusal). read_returned z starts neighbours) (sym i) ∙ e)
  where
    at : (o : Outcome Parsed) → parse N M p q text ≡ o → read_returned (Ok x) starts neighbours ≡ reading_of p q o
        → Accepted x.nodes starts neighbours × (x.nodes ≤ N)
    at (refused k) h f = never (sym (ap (λ (z : AfterReading). z.answer) f))
    at (answered y) h f =
        let j : x.nodes ≡ y.nodes = ap (λ (z : AfterReading). number_in (λ s. s.nodes) z.answer) f in
        let s : starts ≡ (reading_of p q (answered y)).starts = ap (λ (z : AfterReading). z.starts) f in
        let m : neighbours ≡ (reading_of p q (answered y)).neighbours = ap (λ (z : AfterReading). z.neighbours) f in
        (rw (j, s, m) (read_accepted N M p q nodes links text y h), omega (arith, j, (parse_sound N M p q text y h).within.size))

-- what reading accepts is an accepted survey, with exactly the links that the lines name
pub reading_right : (text : List ℕ) (p q : ℕ) → ReadRight text (reading text p q)
unfolding reading reading_of
reading_right text p q x e = at (parse 1024 16384 p q text) refl e
  where
    at : (o : Outcome Parsed) → parse 1024 16384 p q text ≡ o → (reading_of p q o).answer ≡ answered x
        → IsRead text x (reading_of p q o).starts (reading_of p q o).neighbours
    at (refused k) h e = never e
    at (answered y) h e =
        let s : ◌≡◌ {A = Size} (record { nodes = y.nodes; links = length y.links }) x = cc in
        rw (← s) (record {
          survey = read_accepted _ _ _ _ (omega arith) (omega arith) text y h;
          links = y.links;
          count = refl;
          lines = (parse_sound 1024 16384 p q text y h).is_text;
          exactly = read_exactly _ _ _ _ (omega arith) (omega arith) text y h;
        })

-- ---- a text that is written: in front of the buffer, or not at all

module _ (text buffer : List ℕ) where
  pub write_whole : length text ≤ length buffer
      → writing_of (answered tt) text buffer ≡ record { answer = answered (length text); buffer = over text buffer }
  unfolding writing_of
  write_whole h = rw (le-ltb (length buffer) (length text) h) refl

  pub write_short : length buffer < length text → writing_of (answered tt) text buffer ≡ record { answer = refused 12; buffer = buffer }
  unfolding writing_of
  write_short h = rw (lt-ltb (length buffer) (length text) h) refl

  -- the length that is answered is within the buffer
  pub write_fits : (k : ℕ) (left : List ℕ)
      → record { answer = answered k; buffer = left } ≡ writing_of (answered tt) text buffer → k ≤ length left
  unfolding over number_in
  write_fits k left e = ⊎_elim
      (λ h. never (sym (ap (λ (w : AfterWriting). w.answer) (e ∙ write_short h))))
      (λ h.
      let w = e ∙ write_whole h in
      let i : k ≡ length text = ap (λ (x : AfterWriting). number_in (λ j. j) x.answer) w in
      omega (arith, ap (λ (x : AfterWriting). length x.buffer) w ∙ length-append text _))
      (lt_or (length buffer) (length text))

  -- so where it is answered nothing was refused before, and the text is the buffer's front
  pub written : (o : Outcome (Unit {0})) (k : ℕ) → (writing_of o text buffer).answer ≡ answered k
      → (o ≡ answered tt) × (take k (writing_of o text buffer).buffer ≡ text)
  unfolding writing_of over
  written (refused j) k e = never e
  written (answered x) k e = (
    refl,
    picked P (ltb (length buffer) (length text)) _ _ (λ _ e. never e)
        (λ _ e. let j : length text ≡ k = cc in take_at _ _ _ j) e,
  )
    where
      P : AfterWriting → Type 0
      P r = r.answer ≡ answered k → take k r.buffer ≡ text

-- ---- a graph's links in order: each once, and all of them

named_append : (ks ls : List (ℕ × ℕ)) (a b : ℕ) → named (ks ++ ls) a b ≡ (named ks a b || named ls a b)
unfolding named
named_append [] ls a b = refl
named_append (k ∷ ks) ls a b =
    let X = (eqb k.0 a && eqb k.1 b) || (eqb k.0 b && eqb k.1 a) in
    rw (named_append ks ls a b) (sym (or_assoc X _ _))

-- the links of node a to the nodes of a list
row : ℕ → List ℕ → List (ℕ × ℕ)
row a l = map (λ b. (a, b)) l

row_sound : (a : ℕ) (l : List ℕ) (u v : ℕ) → T (named (row a l) u v) → ((u ≡ a) × T (has v l)) ⊎ ((v ≡ a) × T (has u l))
unfolding row named
row_sound a [] u v t = absurd t
row_sound a (b ∷ l) u v t = ⊎_elim
    (λ e. inl (sym e.0, this e.1))
    (⊎_elim
    (λ e. inr (sym e.0, this e.1))
    (λ s. ⊎_elim (λ i. inl (i.0, has_tail _ _ _ i.1)) (λ i. inr (i.0, has_tail _ _ _ i.1)) (row_sound a l u v s)))
    (named_cases (a, b) (row a l) u v t)
  where
    this : {k : ℕ} → b ≡ k → T (has k (b ∷ l))
    this e = rw (← e) (has_head _ _)

row_complete : (a : ℕ) (l : List ℕ) (v : ℕ) → T (has v l) → T (named (row a l) a v)
unfolding row named
row_complete a [] v h = absurd (none_in _ h)
row_complete a (b ∷ l) v h =
    let X = eqb a a && eqb b v in
    let Y = eqb a v && eqb b a in
    ⊎_elim
    (λ e. or_l (X || Y) _ (or_l X _ (and_i (eqb a a) _ (eq_T a _ refl) (eq_T _ _ (sym e)))))
    (λ r. or_r (X || Y) _ (row_complete a l v r))
    (of_cons _ _ _ h)

gather_sound : (f : ℕ → List (ℕ × ℕ)) (l : List ℕ) (u v : ℕ) → T (named (gather f l) u v) → (a : ℕ) × T (has a l) × T (named (f a) u v)
unfolding gather named
gather_sound f [] u v t = absurd t
gather_sound f (x ∷ l) u v t = ⊎_elim
    (λ s. (x, has_head _ _, s))
    (λ s. let i = gather_sound f l u v s in (i.0, has_tail _ _ _ i.1, i.2))
    (or_e (named (f x) u v) (named (gather f l) u v) (subst T (named_append (f x) _ _ _) t))

gather_complete : (f : ℕ → List (ℕ × ℕ)) (l : List ℕ) (a u v : ℕ) → T (has a l) → T (named (f a) u v) → T (named (gather f l) u v)
unfolding gather
gather_complete f [] a u v h t = absurd (none_in _ h)
gather_complete f (x ∷ l) a u v h t = subst T (sym (named_append _ _ _ _)) (⊎_elim
    (λ e. or_l (named (f x) u v) _ (rw e at t))
    (λ r. or_r (named (f x) u v) _ (gather_complete f l a u v r t))
    (of_cons _ _ _ h))

-- every pair u < v that is named comes before (a, k)
AllLess : List (ℕ × ℕ) → ℕ → ℕ → Type 0
AllLess done a k = (u v : ℕ) → T (named done u v) → u < v → (u < a) ⊎ ((u ≡ a) × (v < k))

row_fresh : (n a k : ℕ) (l : List ℕ) (done ks : List (ℕ × ℕ)) → a < n → T (ascending l)
    → ((b : ℕ) → T (has b l) → (a < b) × (b < n) × (k ≤ b)) → AllLess done a k
    → ((done' : List (ℕ × ℕ)) → AllLess done' (suc a) 0 → AllFresh n done' ks) → AllFresh n done (row a l ++ ks)
unfolding row AllLess
row_fresh n a k [] done ks ha asc b less next =
    next done (λ u v t h. inl (⊎_elim (λ x. omega arith) (λ x. omega (arith, x.0)) (less u v t h)))
row_fresh n a k (y ∷ l) done ks ha asc b less next =
    let c = b y (has_head _ _) in (
      record {
        below_a = ha;
        below_b = c.1;
        different = λ e. omega (arith, c.0);
        new = no_false (named done a y) (λ t. ⊎_elim (λ x. omega arith) (λ x. omega (arith, x.1, c.2)) (less a y t c.0));
      },
      row_fresh n a (suc y) l ((a, y) ∷ done) ks ha (ascending_tail y l asc)
          (λ x m. let d = b x (has_tail x y l m) in (d.0, d.1, ascending_above y l asc x m)) up next,
    )
  where
    up : (u v : ℕ) → T (named ((a, y) ∷ done) u v) → u < v → (u < a) ⊎ ((u ≡ a) × (v < suc y))
    up u v t h =
        let c = b y (has_head _ _) in
        ⊎_elim
        (λ e. inr (sym e.0, omega (arith, e.1)))
        (⊎_elim
        (λ e. absurd (omega (arith, e.0, e.1, c.0)))
        (λ s. ⊎_elim inl (λ x. inr (x.0, omega (arith, x.1, c.2))) (less u v s h)))
        (named_cases (a, y) done u v t)

rows_fresh : (n : ℕ) (G : Graph) (k a : ℕ) (done : List (ℕ × ℕ)) → a + k ≡ n → ((v : ℕ) → v < n → T (ascending (G v)))
    → ((v x : ℕ) → v < n → T (has x (G v)) → x < n)
    → AllLess done a 0 → AllFresh n done (gather (λ a. row a (keep (λ b. ltb a b) (G a))) (from a k))
unfolding from gather
rows_fresh n G zero a done e asc b less = tt
rows_fresh n G (suc k) a done e asc b less =
    row_fresh n a 0 _ done _ (omega arith) (keep_of_ascending _ _ (asc a (omega arith)))
    (λ x m. let i = of_keep _ _ _ m in (ltb→lt _ _ i.1, b a x (omega arith) i.0, zero-le)) less
    (λ done' less'. rows_fresh n G k (suc a) done' (omega arith) asc b less')

-- ---- a survey written and read again

module _ (n : ℕ) (starts' neighbours' : List ℕ) (acc : Accepted n starts' neighbours') where
  abbrev G : Graph
  G = neighbours_of starts' neighbours'

  ls : List (ℕ × ℕ)
  ls = ordered n (neighbours_of starts' neighbours')

  pub all_fresh : AllFresh n [] (ordered n (neighbours_of starts' neighbours'))
  unfolding ordered up_to row AllLess named
  all_fresh = rows_fresh n G n 0 [] (zero-add n) acc.lists.sorted acc.lists.graph.below (λ u v t h. absurd t)

  -- the links in order are the graph's links
  ordered_has : (v x : ℕ) → v < n → T (named ls v x) → T (has x (neighbours_of starts' neighbours' v))
  unfolding ls ordered row
  ordered_has v x hv t =
      let i = gather_sound _ _ _ _ t in
      let a = i.0 in
      let ha = of_up_to _ _ i.1 in
      ⊎_elim
      (λ r. subst (λ (k : ℕ). T (has x (G k))) (sym r.0) (of_keep (λ b. ltb a b) _ _ r.1).0)
      (λ r. rw r.0 (acc.lists.graph.symmetric a v ha (of_keep (λ b. ltb a b) _ _ r.1).0))
      (row_sound _ _ _ _ i.2)

  up_named : (v x : ℕ) → v < n → v < x → T (has x (neighbours_of starts' neighbours' v)) → T (named ls v x)
  unfolding ls ordered row
  up_named v x hv l m =
      gather_complete _ (up_to n) v v x (has_up_to _ _ hv) (row_complete _ _ _ (has_keep _ _ _ m (lt→ltb _ _ l)))

  has_ordered : (v x : ℕ) → v < n → T (has x (neighbours_of starts' neighbours' v)) → T (named ls v x)
  has_ordered v x hv m =
      ⊎_elim
      (λ l. up_named _ _ hv l m)
      (λ l.
      let d : x ≡ v → ⊥ = acc.lists.loopless v x hv m in
      subst T (named_sym ls x v) (up_named x v (acc.lists.graph.below v x hv m) (omega arith) (acc.lists.graph.symmetric v x hv m)))
      (lt_or v x)

  graph_back : (v : ℕ) → v < n → graph_of n ls v ≡ neighbours_of starts' neighbours' v
  unfolding graph_of
  graph_back v hv =
      keep_same _ _ _ (λ x m t. ordered_has _ _ hv t) (λ x m t. has_ordered _ _ hv t)
      ∙ ascending_keep _ _ (acc.lists.sorted v hv) (λ x m. acc.lists.graph.below v x hv m)

  -- there are half as many links as neighbours
  pub ordered_count : 2 * length (ordered n (neighbours_of starts' neighbours')) ≡ get_or starts' n 0
  unfolding ls total
  ordered_count =
      sym (links_total _ _ all_fresh)
      ∙ ap length (gather_below _ _ _ graph_back n (omega arith))
      ∙ own_total acc.lists n (omega arith)

  pub half_count : get_or starts' n 0 / 2 ≡ length (ordered n (neighbours_of starts' neighbours'))
  half_count = omega (arith, ordered_count)

  -- the lists of its links in order are its own: n and m, the entries used, and zero past them
  pub links_back : (p q : ℕ)
      → reading_of p q (answered (record { nodes = n; links = ordered n (neighbours_of starts' neighbours') }))
      ≡ as_read n starts' neighbours' p q
  unfolding as_read reading_of ls
  links_back p q i = record {
    answer = answered (record { nodes = n; links = sym half_count i });
    starts = over ((starts_same _ _ _ graph_back ∙ own_starts acc.lists acc.room) i) (replicate p 0);
    neighbours = over ((neighbours_same _ _ _ graph_back ∙ own_neighbours acc.lists) i) (replicate q 0);
  }

  -- the counts are within the limits of reading
  pub links_within : (p q : ℕ) → n + 1 ≤ p → get_or starts' n 0 ≤ q
      → Within 1024 16384 p q n (length (ordered n (neighbours_of starts' neighbours')))
  links_within p q hp hq = record {
    some_node = acc.some_node;
    size = acc.size;
    few = omega (arith, half_count, acc.lists.few_links);
    room = hp;
    list_room = omega (arith, ordered_count);
  }

  pub read_back : (p q : ℕ) → n + 1 ≤ p → get_or starts' n 0 ≤ q
      → reading (text_of n starts' neighbours') p q ≡ as_read n starts' neighbours' p q
  unfolding reading text_of
  read_back p q hp hq =
      ap (reading_of p q) (parse_complete _ _ _ _ (omega arith) (omega arith) _ _ (record {
        within = links_within _ _ hp hq;
        is_text = rw half_count;
        fresh = all_fresh;
      }))
      ∙ links_back _ _

  -- a survey's text, in a buffer that is long enough
  pub writing_answers : (buffer : List ℕ) → length (text_of n starts' neighbours') ≤ length buffer
      → writing n starts' neighbours' buffer ≡ record {
        answer = answered (length (text_of n starts' neighbours'));
        buffer = over (text_of n starts' neighbours') buffer;
      }
  unfolding writing
  writing_answers buffer h = rw (accepting_answers _ _ _ acc) (write_whole _ _ h)

-- written and read again it is the same survey
pub writing_right : (n : ℕ) (starts neighbours buffer : List ℕ) → WriteRight n starts neighbours (writing n starts neighbours buffer)
unfolding writing
writing_right n starts neighbours buffer k e p q hp hq =
    let w = written _ _ _ _ e in
    rw w.1 (read_back _ _ _ (accepting_facts _ _ _ _ w.0) _ _ hp hq)

-- links that are all new are as many as the pairs a < b that they name
pub links_number : (n : ℕ) (links : List (ℕ × ℕ)) → 1 ≤ n → n ≤ 1024 → length links ≤ 16384 → AllFresh n [] links
    → length (ordered n (graph_of n links)) ≡ length links
unfolding ordered
links_number n links some_node size few f =
    let same = gather_same {B = ℕ × ℕ} _ _ (up_to n) (λ v m.
    ap (λ (l : List ℕ). map (λ b. (v, b)) (keep (λ b. ltb v b) l)) (own _ links some_node size few f [] [] _ (of_up_to _ _ m))) in
    omega (
      arith,
      ap length same,
      ordered_count _ _ _ (lists_accepted n links some_node size few f [] []),
      last n links some_node size few f [] [],
    )
