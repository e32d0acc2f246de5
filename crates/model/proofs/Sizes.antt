-- Sizes that are always enough: of the two lists of a survey, of a text buffer, of a walk list.
-- Assumes nothing.
use mathlib.Core.Path.{◌≡◌, refl, sym, ap, ◌∙◌, subst}
use mathlib.Core.Logic.{◌⊎◌, inl, inr, ⊎_elim}
use mathlib.Core.Bool.{Bool, false, not, ◌||◌}
use mathlib.Core.List.{List, [], ◌∷◌, ◌++◌, tail, reverse}
use mathlib.Core.Option.{Option, none as missing, some}
use Prim.Native.Nat.{ℕ, zero, suc, ◌+◌, ◌*◌, ◌/◌, ◌≤◌, ◌<◌}
use native.Mathlib.Omega.{arith}
use borrow.Author.Tests.{le-ltb, ltb-false, leb-false}
use lib.Dec.{T, eqb, ltb, leb, T_not}
use lib.ListN.{length, get_or, length-append, length-reverse}
use Rattle.model.specs.declared.Route.{Route}
use Rattle.model.specs.declared.Route.TheVariants.{Itself, Low, Through, NoRoute, Link}
use Rattle.model.specs.declared.Answer.{Answer}
use Rattle.model.specs.Answers.{Outcome, refused, answered, map_answer, and_then}
use Rattle.model.specs.Basics.{none, gather}
use Rattle.model.specs.Lines.{two_line, number_line_of}
use Rattle.model.specs.SurveyText.{line, line_of, link_lines, survey_text, ordered}
use Rattle.model.specs.Survey.{Graph, neighbours_of, outside, bad_size, short_starts, is_survey, IsGraph, Accepted}
use Rattle.model.specs.Graph.{linked}
use Rattle.model.specs.Hubs.{is_low}
use Rattle.model.specs.Tables.{entry_at, short_tables, AreBuilt}
use Rattle.model.specs.Pair.{bad_pair, pair_by, pair}
use Rattle.model.specs.Walk.{steps, by_low, to_hub, join, by_link, walk_nodes}
use Rattle.model.specs.Threshold.{in_force, bad_threshold}
use Rattle.model.specs.Reading.{limits_of, counts_of, on_links, link_of, read_on, read_links}
use Rattle.model.specs.Reading.{Parsed, parsed, parse_links, parse, reading_of, reading}
use Rattle.model.specs.Writing.{text_of, AfterWriting, writing}
use Rattle.model.specs.Asking.{asking}
use Rattle.model.specs.Walking.{AfterWalking, refuse_walk, fit, walk_of, walking}
use Rattle.model.specs.Demand.{AllowedAnswer}
use Rattle.model.specs.Dimacs.{uncommented, head_word, head_line, edge_line, edge_lines, file_text}
use Rattle.model.specs.Dimacs.{head_of, edge_of, read_edges, file_of, importing, export_of, exporting}
use Rattle.model.proofs.Tests.{picked, true_T, false_no, or_l, or_r, or-false, of_or_false, not-not, eq_T, eq_or, lt_or}
use Rattle.model.proofs.Outcomes.{never, no_value, number_in}
use Rattle.model.proofs.Acceptance.{of_in_range, survey_facts}
use Rattle.model.proofs.Numbers.{length_le}
use Rattle.model.proofs.Lines.{length_two}
use Rattle.model.proofs.Links.{AllFresh}
use Rattle.model.proofs.Walks.{Chosen, to_itself, to_none, to_link, to_low, to_hub_lem, bad_itself, bad_hub, chosen}
use Rattle.model.proofs.Walks.{Sound, steps_sound, too_long, fit_long}
use Rattle.model.proofs.Entries.{long_tables}
use Rattle.model.proofs.Demand.{full_room, low_room, report_room, asking_passed, asks, walks, walking_short, walking_right}
use Rattle.model.proofs.ReadBack.{all_fresh, half_count, writing_answers}
use Rattle.model.proofs.Dimacs.{exporting_answers}

-- equal refusals have equal numbers
same_number : {A : Type 0} (j k : ℕ) → ◌≡◌ {A = Outcome A} (refused j) (refused k) → j ≡ k
unfolding number_in
same_number {A} j k e = ap (number_in (λ (x : A). 0)) e

-- ---- a survey's text, and its file

-- a text of one line with the numbers of nodes and links, and a line of at most 12 bytes for each link
module _ (line : ℕ → ℕ → List ℕ) (few : (a b : ℕ) → a < 1024 → b < 1024 → length (line a b) ≤ 12) where
  lines_few : (n : ℕ) → n ≤ 1024 → (ls done : List (ℕ × ℕ)) → AllFresh n done ls
      → length (gather (λ l. line l.0 l.1) ls) ≤ 12 * length ls
  unfolding gather
  lines_few n h [] done f = omega arith
  lines_few n h (l ∷ ls) done f =
      omega (
        arith,
        length-append (line l.0 l.1) (gather (λ l. line l.0 l.1) ls),
        few l.0 l.1 (omega (arith, f.0.below_a)) (omega (arith, f.0.below_b)),
        lines_few n h ls (l ∷ done) f.1,
      )

  whole_few : (word : List ℕ) (separator n : ℕ) (starts neighbours : List ℕ) → Accepted n starts neighbours
      → length (number_line_of word separator (n ∷ get_or starts n 0 / 2 ∷ [])
      ++ gather (λ l. line l.0 l.1) (ordered n (neighbours_of starts neighbours)))
      ≤ length word + 12 + 12 * 16384
  whole_few word separator n starts neighbours acc =
      let m = get_or starts n 0 / 2 in
      let links = ordered n (neighbours_of starts neighbours) in
      omega (
        arith,
        length-append (number_line_of word separator (n ∷ m ∷ [])) (gather (λ l. line l.0 l.1) links),
        length_two word separator n m,
        length_le 3 n (omega (arith, acc.size)),
        length_le 4 m (omega (arith, acc.lists.few_links)),
        lines_few _ acc.size links [] (all_fresh _ _ _ acc),
        half_count _ _ _ acc,
        acc.lists.few_links,
      )

-- two numbers of at most four digits behind a letter
two_few : (letter separator x y : ℕ) → x < 10000 → y < 10000 → length (number_line_of (letter ∷ []) separator (x ∷ y ∷ [])) ≤ 12
two_few letter separator x y hx hy =
    omega (arith, length_two (letter ∷ []) separator x y, length_le 3 _ hx, length_le 3 _ hy)

-- 13 bytes for the first line of a text, 18 for that of a file, and 12 for each of 16,384 links
abbrev pub most_text : ℕ
most_text = 13 + 12 * 16384

abbrev pub most_file : ℕ
most_file = 18 + 12 * 16384

module _ (n : ℕ) (starts neighbours : List ℕ) (acc : Accepted n starts neighbours) where
  pub text_few : length (text_of n starts neighbours) ≤ most_text
  unfolding text_of survey_text link_lines line_of
  text_few = whole_few (line_of 76) (λ a b ha hb. two_few 76 44 a b (omega arith) (omega arith)) (83 ∷ []) 44 _ _ _ acc

  pub file_few : length (export_of n starts neighbours) ≤ most_file
  unfolding export_of file_text head_line edge_lines edge_line
  file_few =
      whole_few edge_line (λ a b ha hb. two_few 101 32 (a + 1) (b + 1) (omega arith) (omega arith)) head_word 32 _ _ _ acc

  -- a buffer of so many bytes is never refused 12
  pub writing_enough : (buffer : List ℕ) → most_text ≤ length buffer
      → (writing n starts neighbours buffer).answer ≡ answered (length (text_of n starts neighbours))
  writing_enough buffer h = ap (λ (r : AfterWriting). r.answer) (writing_answers _ _ _ acc _ (omega (arith, text_few)))

  pub exporting_enough : (buffer : List ℕ) → most_file ≤ length buffer
      → (exporting n starts neighbours buffer).answer ≡ answered (length (export_of n starts neighbours))
  exporting_enough buffer h = ap (λ (r : AfterWriting). r.answer) (exporting_answers _ _ _ acc _ (omega (arith, file_few)))

-- ---- the lists that reading and importing fill

-- an outcome that is not refused 8
data NotEight {A : Type 0} : Outcome A → Type 0 where
  other : {k : ℕ} → T (not (eqb k 8)) → NotEight (refused k)
  answers : {x : A} → NotEight (answered x)

not_map : {A B : Type 0} (f : A → B) {o : Outcome A} → NotEight o → NotEight (map_answer f o)
not_map f (other n) = other n
not_map f answers = answers

not_then : {A B : Type 0} {o : Outcome A} (f : A → Outcome B) → NotEight o → ((x : A) → NotEight (f x)) → NotEight (and_then o f)
not_then f (other n) m = other n
not_then f (answers {x}) m = m x

not_read : (p q : ℕ) {o : Outcome Parsed} → NotEight o → (reading_of p q o).answer ≡ refused 8 → ⊥
unfolding reading_of
not_read p q (other {k} n) e = T_not (eqb k 8) n (eq_T _ _ (same_number _ _ e))
not_read p q answers e = never (sym e)

not_limits : (p q : ℕ) → 1025 ≤ p → 32768 ≤ q → (f : ℕ × ℕ × List ℕ) → NotEight (limits_of 1024 16384 p q f)
unfolding limits_of
not_limits p q hp hq f =
    picked NotEight (outside 1024 f.0) _ _ (λ _. other tt) (λ size.
    picked NotEight (ltb 16384 f.1) _ _ (λ _. other tt) (λ few.
    let room : (ltb p (f.0 + 1) || ltb q (2 * f.1)) ≡ false = or-false _ _
    (le-ltb _ (f.0 + 1) (omega (arith, (of_in_range _ f.0 size).1)))
    (le-ltb _ (2 * f.1) (omega (arith, ltb-false _ f.1 few))) in
    rw room answers))

-- the link lines of a text, and the edge lines of a file
not_link : (n : ℕ) (g : ℕ → ℕ → Bool) (o : Option (ℕ × ℕ × List ℕ)) → NotEight (link_of n g o)
unfolding link_of
not_link n g missing = other tt
not_link n g (some l) =
    picked NotEight (leb n l.0 || leb n l.1) _ _ (λ _. other tt) (λ _.
    picked NotEight (eqb l.0 l.1) _ _ (λ _. other tt) (λ _.
    picked NotEight (g l.0 l.1) _ _ (λ _. other tt) (λ _. answers)))

not_edge : (n : ℕ) (o : Option (ℕ × ℕ × List ℕ)) → NotEight (edge_of n o)
unfolding edge_of
not_edge n missing = other tt
not_edge n (some l) =
    picked NotEight (outside n l.0 || outside n l.1) _ _ (λ _. other tt) (λ _.
    picked NotEight (eqb l.0 l.1) _ _ (λ _. other tt) (λ _. answers))

not_links : (n m : ℕ) (done : List (ℕ × ℕ)) (text : List ℕ) → NotEight (read_links n m done text)
unfolding read_links read_on on_links
not_links n zero done [] = answers
not_links n zero done (c ∷ text) = other tt
not_links n (suc m) done [] = other tt
not_links n (suc m) done (c ∷ text) = not_then _ (not_link _ _ _) (λ l. not_map _ (not_links n m ((l.0, l.1) ∷ done) l.2))

not_edges : (n m : ℕ) (text : List ℕ) → NotEight (read_edges n m text)
unfolding read_edges read_on on_links
not_edges n zero [] = answers
not_edges n zero (c ∷ text) = other tt
not_edges n (suc m) text = not_then _ (not_edge _ _) (λ l. not_map _ (not_edges n m l.2))

-- lists of 1,025 and 32,768 entries are never refused 8
pub reading_enough : (text : List ℕ) (p q : ℕ) → 1025 ≤ p → 32768 ≤ q → (reading text p q).answer ≡ refused 8 → ⊥
unfolding reading parse parse_links parsed counts_of
reading_enough text p q hp hq = not_read _ _ (not_then _ (first (line 83 text)) (λ f. not_map _ (not_links _ _ _ _)))
  where
    first : (o : Option (ℕ × ℕ × List ℕ)) → NotEight (counts_of 1024 16384 p q o)
    first missing = other tt
    first (some f) = not_limits _ _ hp hq f

pub importing_enough : (text : List ℕ) (p q : ℕ) → 1025 ≤ p → 32768 ≤ q → (importing text p q).answer ≡ refused 8 → ⊥
unfolding importing file_of parsed head_of
importing_enough text p q hp hq =
    not_read _ _ (not_map _ (not_then _ (head (two_line head_word 32 (uncommented text))) (λ f. not_map _ (not_edges _ _ _))))
  where
    head : (o : Option (ℕ × ℕ × List ℕ)) → NotEight (head_of p q o)
    head missing = other tt
    head (some f) = not_limits _ _ hp hq f

-- ---- a walk, whatever the tables hold

tail_few : (l : List ℕ) → length (tail l) ≤ length l
tail_few [] = omega arith
tail_few (x ∷ l) = omega arith

module _ (n s : ℕ) (G : Graph) (g : IsGraph n G) where
  -- a part has at most n nodes
  part_few : (may : ℕ → Bool) (left : ℕ → ℕ) (goal v : ℕ) → v < n → (l : List ℕ) → steps G may left goal (left v) v ≡ some l → length l ≤ n
  part_few may left goal v h l e =
      let c = (subst (λ (o : Option (List ℕ)). Sound (linked n G) (left v) v goal o) e (steps_sound n G g may left goal (left v) v h)).1 in
      ⊎_elim
      (λ k. omega (arith, c, k))
      (λ k. no_value (sym (too_long n G g may left goal (left v) v h (omega arith) k) ∙ e))
      (lt_or (left v) n)

  join_few : (p q : Option (List ℕ)) → ((l : List ℕ) → p ≡ some l → length l ≤ n) → ((l : List ℕ) → q ≡ some l → length l ≤ n)
      → (l : List ℕ) → join p q ≡ some l → length l ≤ 2 * n
  unfolding join
  join_few missing q f h l e = no_value e
  join_few (some p) missing f h l e = no_value e
  join_few (some p) (some q) f h l e =
      let k : p ++ tail (reverse q) ≡ l = cc in
      omega (arith, sym (ap length k) ∙ length-append p _, tail_few (reverse q), length-reverse q, f p refl, h q refl)

  -- the nodes of a walk are at most 2 n
  nodes_few : (full low : List ℕ) (a b : ℕ) → a < n → b < n → (t : Route) (l : List ℕ) → walk_nodes n s G full low a b t ≡ some l
      → length l ≤ 2 * n
  unfolding walk_nodes by_low to_hub by_link
  nodes_few full low a b ha hb Itself l e = let k : a ∷ [] ≡ l = cc in omega (arith, ap length k)
  nodes_few full low a b ha hb Low l e = omega (arith, part_few (is_low s G) (λ x. entry_at n low x b) b a ha l e)
  nodes_few full low a b ha hb (Through h) l e =
      join_few _ _ (part_few _ _ _ _ ha) (part_few _ _ _ _ hb) _ e
  nodes_few full low a b ha hb NoRoute l e = let k : [] ≡ l = cc in omega (arith, ap length k)
  nodes_few full low a b ha hb Link l e =
      picked (λ o. o ≡ some l → length l ≤ 2 * n) (linked n G a b) _ _
      (λ _ q. let k : a ∷ b ∷ [] ≡ l = cc in omega (arith, ap length k)) (λ _ q. no_value q) e

-- with a walk list of 2 n entries or more, a walk is refused 8 only for `starts` or a table
pub walking_enough : (n t : ℕ) (starts neighbours full low report : List ℕ) (a b w : ℕ) → 2 * n ≤ w
    → (walking n t starts neighbours full low report a b w).answer ≡ refused 8
    → T (short_starts n (length starts) || short_tables n (length full) (length low) (length report))
unfolding walking refuse_walk pair pair_by walk_of fit
walking_enough n t starts neighbours full low report a b w h =
    picked P (bad_size n) _ _ (λ _ e. absurd (omega (arith, same_number 2 8 e))) (λ _.
    picked P (bad_threshold t) _ _ (λ _ e. absurd (omega (arith, same_number 14 8 e))) (λ _.
    picked P starts_short _ _ (λ s e. or_l starts_short tables_short (true_T _ s)) (λ _.
    picked P tables_short _ _ (λ s e. or_r starts_short tables_short (true_T _ s)) (λ _.
    picked P (not (is_survey n starts neighbours)) _ _ (λ _ e. absurd (omega (arith, same_number 9 8 e))) (λ lists.
    picked P (bad_pair n a b) _ _ (λ _ e. absurd (omega (arith, same_number 10 8 e))) (λ below.
    let i = of_or_false _ _ below in
    let g = (survey_facts _ _ _ (not-not (is_survey n starts neighbours) lists)).graph in
    answers g (leb-false _ _ i.0) (leb-false _ _ i.1) (chosen a b r _ _)))))))
  where
    G : Graph
    G = neighbours_of starts neighbours

    r : ℕ
    r = entry_at n report a b

    starts_short : Bool
    starts_short = short_starts n (length starts)

    tables_short : Bool
    tables_short = short_tables n (length full) (length low) (length report)

    P : AfterWalking → Type 0
    P x = x.answer ≡ refused 8 → T (starts_short || tables_short)

    fitted : (x : Answer) (o : Option (List ℕ)) → ((l : List ℕ) → o ≡ some l → length l ≤ 2 * n) → P (fit w x o)
    fitted x missing f e = absurd (omega (arith, same_number 11 8 e))
    fitted x (some l) f e = never (sym e ∙ ap (λ (y : AfterWalking). y.answer) (fit_long _ _ l (omega (arith, f l refl))))

    walk : IsGraph n G → a < n → b < n → (x : Answer) → P (fit w x (walk_nodes n (in_force n t) G full low a b x.route))
    walk g ha hb x =
        fitted x (walk_nodes n (in_force n t) G full low a b x.route) (nodes_few n _ G g full low a b ha hb x.route)

    answers : IsGraph n G → a < n → b < n → {l k : ℕ} {q : Outcome Answer} → Chosen a b r l k q
        → P (walk_of w n (in_force n t) G full low a b q)
    answers g ha hb (to_itself e z) = walk g ha hb _
    answers g ha hb (to_none x e) = walk g ha hb _
    answers g ha hb (to_link x e) = walk g ha hb _
    answers g ha hb (to_low x f o e) = walk g ha hb _
    answers g ha hb (to_hub_lem x f o y z) = walk g ha hb _
    answers g ha hb (bad_itself e f) = λ q. absurd (omega (arith, same_number 11 8 q))
    answers g ha hb (bad_hub x f o y z) = λ q. absurd (omega (arith, same_number 11 8 q))

-- from any tables and with any threshold that is not refused, in such a list: where asking answers, the walk answers the same or is refused 11
pub walk_or_11 : (n t : ℕ) (starts neighbours : List ℕ) → Accepted n starts neighbours → t ≤ 1024 → (full low report : List ℕ) (a b : ℕ)
    → {x : Answer} → asking n full low report a b ≡ answered x → (w : ℕ) → 2 * n ≤ w
    → ((walking n t starts neighbours full low report a b w).answer ≡ answered x)
    ⊎ ((walking n t starts neighbours full low report a b w).answer ≡ refused 11)
unfolding walk_of refuse_walk fit
walk_or_11 n t starts neighbours acc small full low report a b {x} e w h =
    let p = asking_passed n full low report a b e in
    let o = walks acc full low report p.0 p.1 p.2 p.3 p.4 small w ∙ ap (walk_of w n s G full low a b) p.5 in
    rw (ap (λ (r : AfterWalking). r.answer) o)
    (at (walk_nodes n s G full low a b x.route) (nodes_few n s G acc.lists.graph full low a b p.3 p.4 x.route))
  where
    G : Graph
    G = neighbours_of starts neighbours

    s : ℕ
    s = in_force n t

    at : (o : Option (List ℕ)) → ((l : List ℕ) → o ≡ some l → length l ≤ 2 * n)
        → ((fit w x o).answer ≡ answered x) ⊎ ((fit w x o).answer ≡ refused 11)
    at missing f = inr refl
    at (some l) f = inl (ap (λ (r : AfterWalking). r.answer) (fit_long _ _ l (omega (arith, f l refl))))

-- with tables built from an accepted survey, and the walk given their threshold, 2 n entries are always enough
pub built_enough : (n t : ℕ) (starts neighbours : List ℕ) → Accepted n starts neighbours → t ≤ 1024 → (full low report : List ℕ)
    → AreBuilt n (in_force n t) (neighbours_of starts neighbours) full low report → (a b : ℕ) → a < n → b < n
    → (w : ℕ) → 2 * n ≤ w → (walking n t starts neighbours full low report a b w).answer ≡ asking n full low report a b
unfolding walk_of fit refuse_walk
built_enough n t starts neighbours acc small full low report own a b ha hb w h =
    ⊎_elim
    (λ z. answers w (inl z) ∙ sym asked.given)
    (λ m. ⊎_elim (λ l. answers w (inr l) ∙ sym asked.given) (λ l. absurd (found m l (walk_nodes n s G full low a b x.route) refl))
    (lt_or x.report w))
    (eq_or x.report none)
  where
    s : ℕ
    s = in_force n t

    G : Graph
    G = neighbours_of starts neighbours

    asked : AllowedAnswer (linked n G) a b (asking n full low report a b)
    asked = (walking_right n t starts neighbours full low report a b w acc small own ha hb).0

    x : Answer
    x = asked.value

    answers : (v : ℕ) → (x.report ≡ none) ⊎ (x.report < v) → (walking n t starts neighbours full low report a b v).answer ≡ answered x
    answers v room = (walking_right n t starts neighbours full low report a b v acc small own ha hb).1 x asked.given room

    short : (short_starts n (length starts) || short_tables n (length full) (length low) (length report)) ≡ false
    short = or-false (short_starts n (length starts)) _
        (le-ltb (length starts) _ acc.room) (long_tables _ (length full) _ _ (full_room own) (low_room own) (report_room own))

    -- a report of w or more would have a walk of more than 2 n nodes
    found : (x.report ≡ none → ⊥) → w ≤ x.report → (o : Option (List ℕ)) → walk_nodes n s G full low a b x.route ≡ o → ⊥
    found m l missing f =
        let v = suc x.report in
        let given = sym (asks acc full low report (full_room own) (low_room own) (report_room own) ha hb) ∙ asked.given in
        never (
        sym (ap (λ (y : AfterWalking). y.answer) (
        walks acc full low report (full_room own) (low_room own) (report_room own) ha hb small v ∙ ap (walk_of v n s G full low a b) given ∙ ap (fit v x) f
        ))
        ∙ answers v (inr (omega arith))
        )
    found m l (some p) f =
        false_no _ short (walking_enough _ t starts _ full low report _ _ _ h
        ((walking_short acc small full low report a b asked.given f w).1 (m, omega arith)))
