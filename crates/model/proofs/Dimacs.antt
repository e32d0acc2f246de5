-- DIMACS edge files. A text is imported exactly where it is in form and within the limits; what is imported is an accepted survey whose
-- links are exactly the pairs that the file's lines name, each counted once; and an exported survey is imported as the same survey.
-- Assumes nothing.
use mathlib.Core.Path.{◌≡◌, refl, sym, ap, ap₂, ◌∙◌, subst, fun_ext}
use mathlib.Core.Logic.{⊎_elim, ◌↔◌}
use mathlib.Core.Bool.{Bool, true, false, ◌&&◌, ◌||◌, or-false as or_nothing}
use mathlib.Core.List.{List, [], ◌∷◌, ◌++◌, map, append_assoc, append-nil}
use mathlib.Core.Option.{Option, none as missing, some}
use Prim.Native.Nat.{ℕ, zero, suc, ◌+◌, ◌-◌, ◌^◌, ◌≤◌, ◌<◌}
use native.Mathlib.Omega.{arith}
use borrow.Author.Tests.{ne_eqb, eqb-false}
use lib.Dec.{T, eqb}
use lib.ListN.{length, get_or}
use Rattle.model.specs.declared.Size.{Size}
use Rattle.model.specs.Answers.{Outcome, refused, answered, map_answer, and_then}
use Rattle.model.specs.Basics.{up_to, has, keep, gather, over}
use Rattle.std.specs.Prelude.{if◌then◌else◌}
use Rattle.model.specs.Lines.{AllFree, two_line}
use Rattle.model.specs.SurveyText.{ordered}
use Rattle.model.specs.Survey.{outside, neighbours_of, Accepted}
use Rattle.model.specs.Reading.{limits_of, named, on_links, read_on, counts_of, Parsed, parsed, graph_of, reading_of}
use Rattle.model.specs.Demand.{as_read}
use Rattle.model.specs.Dimacs.{is_comment, uncommented, head_word, edge_word, head_line, edge_line, edge_lines, file_text}
use Rattle.model.specs.Dimacs.{head_of, edge_refusals, edge_of, read_edges, file_of, once_after, kept_once, importing, export_of, exporting}
use Rattle.model.specs.Dimacs.{Item, comment, edge, item_text, comments_text, OneLines, edges_among}
use Rattle.model.specs.Dimacs.{IsFile, IsImported, ImportRight, ExportRight}
use Rattle.model.proofs.Tests.{picked, T_true, true_T, or-false, of_or_false, or_e, or_turned}
use Rattle.model.proofs.Lists.{none_in}
use Rattle.model.proofs.Outcomes.{never, judged_none, of_then, of_mapped}
use Rattle.model.proofs.Acceptance.{in_range, of_in_range, accepting_facts, accepting_answers}
use Rattle.model.proofs.Lines.{two_complete, two_sound}
use Rattle.model.proofs.Comments.{comment_goes, end_stays, comments_go, only_comments, numbers_stay, first_numbers}
use Rattle.model.proofs.Links.{AllFresh, Within, first_taken, of_first_taken}
use Rattle.model.proofs.Totals.{named_sym, both_equal}
use Rattle.model.proofs.ReadBack.{links_accepted, links_linked, links_number, write_whole, written}
use Rattle.model.proofs.ReadBack.{all_fresh, half_count, links_back, links_within}

-- ---- one line

-- two different nodes below n
pub record IsEdge (n a b : ℕ) : Type 0 where
  pub below_a : a < n
  pub below_b : b < n
  pub different : a ≡ b → ⊥

-- each of the links is one of two different nodes below n
abbrev pub AllEdges : ℕ → List (ℕ × ℕ) → Type 0
AllEdges n [] = Unit {0}
AllEdges n (l ∷ ls) = IsEdge n l.0 l.1 × AllEdges n ls

-- the words have no line feed
pub head_free : T (has 10 head_word) → ⊥
unfolding has
head_free t = t

pub edge_free : T (has 10 edge_word) → ⊥
unfolding has
edge_free t = t

module _ (n : ℕ) where
  pub edge_taken : (a b : ℕ) (rest : List ℕ) → IsEdge n a b → edge_of n (some (a + 1, b + 1, rest)) ≡ answered (a, b, rest)
  unfolding edge_of
  edge_taken a b rest e =
      let ea : a + 1 - 1 ≡ a = omega arith in
      let eb : b + 1 - 1 ≡ b = omega arith in
      rw (
        or-false (outside n (a + 1)) _ (in_range _ (a + 1) (omega arith) (omega (arith, e.below_a)))
            (in_range n (b + 1) (omega arith) (omega (arith, e.below_b))),
        ne_eqb (a + 1) (b + 1) (λ i. e.different (omega arith)),
      ) (λ i. answered (ea i, eb i, rest))

  pub of_edge_taken : (o : Option (ℕ × ℕ × List ℕ)) (x : ℕ × ℕ × List ℕ) → edge_of n o ≡ answered x
      → (o ≡ some (x.0 + 1, x.1 + 1, x.2)) × IsEdge n x.0 x.1
  unfolding edge_of
  of_edge_taken missing x e = never e
  of_edge_taken (some l) x e =
      let p = judged_none (edge_refusals n l.0 l.1) _ e in
      let ends = of_or_false _ _ p.0.0 in
      let a = of_in_range _ l.0 ends.0 in
      let b = of_in_range _ l.1 ends.1 in
      let d = eqb-false l.0 _ p.0.1.0 in
      let is : ◌≡◌ {A = ℕ × ℕ × List ℕ} (l.0 - 1, l.1 - 1, l.2) x = cc p.1 in
      let ea : l.0 ≡ l.0 - 1 + 1 = omega arith in
      let eb : l.1 ≡ l.1 - 1 + 1 = omega arith in
      subst (λ (y : ℕ × ℕ × List ℕ). (some l ≡ some (y.0 + 1, y.1 + 1, y.2)) × IsEdge n y.0 y.1) is (
        (λ i. some (ea i, eb i, l.2)),
        record { below_a = omega arith; below_b = omega arith; different = λ i. d (omega arith) },
      )

-- ---- all lines

edges_complete : (n : ℕ) → n < 10 ^ 10 → (ls : List (ℕ × ℕ)) → AllEdges n ls → read_edges n (length ls) (edge_lines ls) ≡ answered ls
unfolding read_edges read_on on_links edge_lines edge_line gather
edges_complete n small [] a = refl
edges_complete n small (l ∷ ls) a =
    let e = a.0 in
    let next : ℕ → ℕ → List ℕ → Outcome (List (ℕ × ℕ)) = λ a b rest. read_edges n (length ls) rest in
    ap (λ (o : Option (ℕ × ℕ × List ℕ)). read_on next (edge_of n o))
    (two_complete _ _ edge_free (λ i. omega arith) (omega arith) _ _ (omega (arith, e.below_a)) (omega (arith, e.below_b)) _)
    ∙ ap (read_on next) (edge_taken _ _ _ _ e)
    ∙ ap (on_links l) (edges_complete n small ls a.1)

pub record EdgesRead (n m : ℕ) (text : List ℕ) (ls : List (ℕ × ℕ)) : Type 0 where
  pub is_text : text ≡ edge_lines ls
  pub count : length ls ≡ m
  pub edges : AllEdges n ls

pub edges_sound : (n m : ℕ) (text : List ℕ) (ls : List (ℕ × ℕ)) → read_edges n m text ≡ answered ls → EdgesRead n m text ls
unfolding read_edges read_on on_links edge_lines edge_line gather
edges_sound n zero [] ls e =
    let q : ◌≡◌ {A = List (ℕ × ℕ)} [] ls = cc in
    rw (← q) (record { is_text = refl; count = refl; edges = tt })
edges_sound n zero (c ∷ text) ls e = never e
edges_sound n (suc m) text ls e =
    let i = of_then (edge_of n (two_line edge_word 32 text)) _ e in
    let l = i.0 in
    let j = of_mapped _ (read_edges n m l.2) i.2 in
    let t = of_edge_taken _ _ _ i.1 in
    let r = edges_sound n m _ _ j.1 in
    rw (← j.2) (record {
      is_text =
          (two_sound _ _ _ _ _ _ t.0).is_text
          ∙ ap (λ (k : List ℕ). edge_line l.0 l.1 ++ k) {y = edge_lines j.0} r.is_text;
      count = omega (arith, r.count);
      edges = (t.1, r.edges);
    })

-- ---- a file without comments

-- what it says where it is taken: counts within the limits, and links between different nodes below n
pub record FileRead (p q : ℕ) (x : Parsed) : Type 0 where
  pub within : Within 1024 16384 p q x.nodes (length x.links)
  pub edges : AllEdges x.nodes x.links

module _ (p q : ℕ) where
  pub head_taken : (f : ℕ × ℕ × List ℕ) → Within 1024 16384 p q f.0 f.1 → head_of p q (some f) ≡ answered f
  unfolding head_of counts_of limits_of
  head_taken = first_taken _ _ _ _

  pub of_head_taken : (o : Option (ℕ × ℕ × List ℕ)) (x : ℕ × ℕ × List ℕ) → head_of p q o ≡ answered x
      → (o ≡ some x) × Within 1024 16384 p q x.0 x.1
  unfolding head_of counts_of limits_of
  of_head_taken missing x e = never e
  of_head_taken (some f) x e = of_first_taken _ _ _ _ _ _ e

  file_complete : (x : Parsed) → FileRead p q x → file_of p q (file_text x.nodes (length x.links) x.links) ≡ answered x
  unfolding file_of file_text head_line parsed
  file_complete x r =
      let w = r.within in
      let next : ℕ × ℕ × List ℕ → Outcome Parsed = λ f. parsed f.0 (read_edges f.0 f.1 f.2) in
      ap (λ (o : Option (ℕ × ℕ × List ℕ)). and_then (head_of p q o) next)
      (two_complete _ _ head_free (λ i. omega arith) (omega arith) _ _ (omega (arith, w.size)) (omega (arith, w.few)) _)
      ∙ ap (λ (o : Outcome (ℕ × ℕ × List ℕ)). and_then o next) (head_taken _ w)
      ∙ ap (parsed x.nodes) (edges_complete _ (omega (arith, w.size)) _ r.edges)

  file_sound : (text : List ℕ) (x : Parsed) → file_of p q text ≡ answered x
      → FileRead p q x × (text ≡ file_text x.nodes (length x.links) x.links)
  unfolding file_of file_text head_line parsed
  file_sound text x e =
      let i = of_then (head_of p q (two_line head_word 32 text)) _ e in
      let f = i.0 in
      let t = of_head_taken _ _ i.1 in
      let j = of_mapped _ (read_edges f.0 f.1 f.2) i.2 in
      let g = edges_sound _ _ _ _ j.1 in
      subst (λ (y : Parsed). FileRead p q y × (text ≡ file_text y.nodes (length y.links) y.links)) j.2 (
        record { within = rw g.count t.1; edges = g.edges },
        (two_sound _ _ _ _ _ _ t.0).is_text
            ∙ ap₂ (λ (k : ℕ) (s : List ℕ). head_line f.0 k ++ s) (sym g.count) g.is_text,
      )

-- ---- a repeated link is kept once

-- each link that is kept is new
pub once_fresh : (n : ℕ) (done ls : List (ℕ × ℕ)) → AllEdges n ls → AllFresh n done (once_after done ls)
unfolding once_after
once_fresh n done [] a = tt
once_fresh n done (l ∷ ls) a =
    let e = a.0 in
    picked (AllFresh n done) (named done l.0 l.1) _ _ (λ _. once_fresh n done ls a.1) (λ new. (
      record { below_a = e.below_a; below_b = e.below_b; different = e.different; new = new },
      once_fresh n (l ∷ done) ls a.1,
    ))

pub once_few : (done ls : List (ℕ × ℕ)) → length (once_after done ls) ≤ length ls
unfolding once_after
once_few done [] = omega arith
once_few done (l ∷ ls) =
    picked (λ (ks : List (ℕ × ℕ)). length ks ≤ suc (length ls)) (named done l.0 l.1) _ _
    (λ _. omega (arith, once_few done ls)) (λ _. omega (arith, once_few (l ∷ done) ls))

-- where a link is named, so is each pair that it is, either way round
named_either : (done : List (ℕ × ℕ)) (l : ℕ × ℕ) (a b : ℕ) → named done l.0 l.1 ≡ true
    → T (eqb l.0 a && eqb l.1 b || eqb l.0 b && eqb l.1 a) → T (named done a b)
named_either done l a b h t = ⊎_elim (this _ _) (λ x. subst T (named_sym _ _ _) (this _ _ x)) (or_e (eqb l.0 a && eqb l.1 b) _ t)
  where
    this : (u v : ℕ) → T (eqb l.0 u && eqb l.1 v) → T (named done u v)
    this u v s = let i = both_equal _ _ _ _ s in true_T _ (sym (ap₂ (named done) i.0 i.1) ∙ h)

-- a test that passes only where another does adds nothing to it
adds_nothing : (x y : Bool) → (T x → T y) → y ≡ (x || y)
adds_nothing true y f = T_true _ (f tt)
adds_nothing false y f = refl

-- the same pairs are named, with those before
once_after_lem : (done ls : List (ℕ × ℕ)) (a b : ℕ) → (named (once_after done ls) a b || named done a b) ≡ (named ls a b || named done a b)
unfolding once_after named
once_after_lem done [] a b = refl
once_after_lem done (l ∷ ls) a b = at (named done l.0 l.1) refl (once_after_lem done ls a b) (once_after_lem (l ∷ done) ls a b)
  where
    X : Bool
    X = eqb l.0 a && eqb l.1 b || eqb l.0 b && eqb l.1 a

    at : (t : Bool) → named done l.0 l.1 ≡ t
        → (named (once_after done ls) a b || named done a b) ≡ (named ls a b || named done a b)
        → (named (once_after (l ∷ done) ls) a b || (X || named done a b)) ≡ (named ls a b || (X || named done a b))
        → (named (if t then once_after done ls else l ∷ once_after (l ∷ done) ls) a b || named done a b)
        ≡ ((X || named ls a b) || named done a b)
    at true h old new =
        old ∙ ap (λ (t : Bool). named ls a b || t) (adds_nothing X _ (named_either done _ _ _ h)) ∙ or_turned _ X _
    at false h old new = sym (or_turned _ X _) ∙ new ∙ or_turned _ X _

pub once_named : (ls : List (ℕ × ℕ)) (a b : ℕ) → named (once_after [] ls) a b ≡ named ls a b
unfolding named
once_named ls a b = sym (or_nothing _) ∙ once_after_lem [] ls a b ∙ or_nothing _

-- so the graph is the same
pub once_graph : (n : ℕ) (ls : List (ℕ × ℕ)) → graph_of n (once_after [] ls) ≡ graph_of n ls
unfolding graph_of
once_graph n ls = fun_ext (λ v. ap (λ (f : ℕ → Bool). keep f (up_to n)) (fun_ext (once_named _ _)))

-- links that are new one after the other are kept as they are
once_same : (n : ℕ) (done ls : List (ℕ × ℕ)) → AllFresh n done ls → once_after done ls ≡ ls
unfolding once_after
once_same n done [] f = refl
once_same n done (l ∷ ls) f = rw f.0.new (ap (λ (ks : List (ℕ × ℕ)). l ∷ ks) (once_same n (l ∷ done) ls f.1))

fresh_edges : (n : ℕ) (done ls : List (ℕ × ℕ)) → AllFresh n done ls → AllEdges n ls
fresh_edges n done [] f = tt
fresh_edges n done (l ∷ ls) f =
    let g = f.0 in
    (record { below_a = g.below_a; below_b = g.below_b; different = g.different }, fresh_edges n (l ∷ done) ls f.1)

-- ---- comments

-- the lines of a file stay
head_stays : (n m : ℕ) (rest : List ℕ) → uncommented (head_line n m ++ rest) ≡ head_line n m ++ uncommented rest
unfolding head_line is_comment
head_stays n m = numbers_stay head_word 32 head_free (λ i. omega arith) (n ∷ m ∷ []) refl

edge_stays : (a b : ℕ) (rest : List ℕ) → uncommented (edge_line a b ++ rest) ≡ edge_line a b ++ uncommented rest
unfolding edge_line is_comment
edge_stays a b = numbers_stay edge_word 32 edge_free (λ i. omega arith) ((a + 1) ∷ (b + 1) ∷ []) refl

edges_stay : (ls : List (ℕ × ℕ)) → uncommented (edge_lines ls) ≡ edge_lines ls
unfolding edge_lines gather
edges_stay [] = end_stays [] (none_in _)
edges_stay (l ∷ ls) = edge_stays _ _ _ ∙ ap (λ (t : List ℕ). edge_line l.0 l.1 ++ t) (edges_stay ls)

items_stay : (is : List Item) → OneLines is → uncommented (gather item_text is) ≡ edge_lines (edges_among is)
unfolding gather item_text edges_among edge_lines is_comment has
items_stay [] o = end_stays [] (none_in 10)
items_stay (comment bytes ∷ is) o =
    ap uncommented (append_assoc (99 ∷ bytes) _ _) ∙ comment_goes (99 ∷ bytes) _ o.0 refl ∙ items_stay is o.1
items_stay (edge a b ∷ is) o = edge_stays _ _ _ ∙ ap (λ (t : List ℕ). edge_line a b ++ t) (items_stay is o.1)

-- a text in form, without its comments, is the text of its links
pub form_complete : (text : List ℕ) (n : ℕ) (ls : List (ℕ × ℕ)) → IsFile text n ls → uncommented text ≡ file_text n (length ls) ls
unfolding file_text
form_complete text n ls f =
    ap uncommented f.lines
    ∙ comments_go _ f.before_lines _
    ∙ head_stays _ _ _
    ∙ ap (λ (t : List ℕ). head_line n (length ls) ++ t) (items_stay _ f.items_lines ∙ ap edge_lines f.edges)

-- and the other way: comments, and then the lines
comments_items : (cs : List (List ℕ)) → AllFree 10 cs → (is : List Item) → OneLines is
    → OneLines (map comment cs ++ is) × (gather item_text (map comment cs ++ is) ≡ comments_text cs ++ gather item_text is)
    × (edges_among (map comment cs ++ is) ≡ edges_among is)
unfolding gather comments_text edges_among
comments_items [] a is o = (o, refl, refl)
comments_items (c ∷ cs) a is o =
    let r = comments_items cs a.1 _ o in (
      (a.0, r.0),
      ap (λ (t : List ℕ). item_text (comment c) ++ t) r.1 ∙ sym (append_assoc (item_text (comment c)) _ _),
      r.2,
    )

items_sound : (ls : List (ℕ × ℕ)) (text : List ℕ) → uncommented text ≡ edge_lines ls
    → (is : List Item) × OneLines is × (text ≡ gather item_text is) × (edges_among is ≡ ls)
unfolding edge_lines gather edges_among edge_line item_text
items_sound [] text e =
    let c = only_comments text e in
    let r = comments_items _ c.1 [] tt in
    (map comment c.0 ++ [], r.0, c.2 ∙ sym (r.1 ∙ append-nil _), r.2)
items_sound (l ∷ ls) text e =
    let p = first_numbers edge_word 32 edge_free (λ i. omega arith) ((l.0 + 1) ∷ (l.1 + 1) ∷ []) text _ e in
    let i = items_sound ls _ p.is_left in
    let r = comments_items _ p.one_lines (edge l.0 l.1 ∷ i.0) (tt, i.1) in (
      map comment p.comments ++ edge l.0 l.1 ∷ i.0,
      r.0,
      p.is_text ∙ ap (λ (t : List ℕ). comments_text p.comments ++ (edge_line l.0 l.1 ++ t)) i.2 ∙ sym r.1,
      r.2 ∙ ap (λ (ks : List (ℕ × ℕ)). l ∷ ks) i.3,
    )

pub form_sound : (text : List ℕ) (n : ℕ) (ls : List (ℕ × ℕ)) → uncommented text ≡ file_text n (length ls) ls → IsFile text n ls
unfolding file_text head_line
form_sound text n ls e =
    let p = first_numbers head_word 32 head_free (λ i. omega arith) (n ∷ length ls ∷ []) text _ e in
    let i = items_sound _ _ p.is_left in
    record {
      before = p.comments;
      items = i.0;
      before_lines = p.one_lines;
      items_lines = i.1;
      lines = p.is_text ∙ ap (λ (t : List ℕ). comments_text p.comments ++ (head_line n (length ls) ++ t)) i.2;
      edges = i.3;
    }

-- ---- importing

-- a text is accepted exactly where it is in form, with counts within the limits and links between different nodes below n
pub file_exactly : (p q : ℕ) (text : List ℕ) (x : Parsed)
    → (file_of p q (uncommented text) ≡ answered x) ↔ (IsFile text x.nodes x.links × FileRead p q x)
file_exactly p q text x = (
  λ e. let r = file_sound _ _ _ _ e in (form_sound _ _ _ r.1, r.0),
  λ r. ap (file_of p q) (form_complete _ _ _ r.0) ∙ file_complete _ _ _ r.1,
)

-- then it is imported as the survey of its links, each kept once
pub import_taken : (p q : ℕ) (text : List ℕ) (x : Parsed) → IsFile text x.nodes x.links → FileRead p q x
    → importing text p q ≡ reading_of p q (answered (kept_once x))
unfolding importing
import_taken p q text x f r = ap (λ (o : Outcome Parsed). reading_of p q (map_answer kept_once o)) ((file_exactly _ _ _ _).1 (f, r))

-- what is imported is an accepted survey, with exactly the links that the lines name, each counted once
pub import_right : (text : List ℕ) (p q : ℕ) → ImportRight text (importing text p q)
unfolding importing reading_of
import_right text p q x e = at (file_of p q (uncommented text)) refl e
  where
    at : (o : Outcome Parsed) → file_of p q (uncommented text) ≡ o → (reading_of p q (map_answer kept_once o)).answer ≡ answered x
        → IsImported text x (reading_of p q (map_answer kept_once o)).starts (reading_of p q (map_answer kept_once o)).neighbours
    at (refused k) h e = never e
    at (answered y) h e =
        let r = (file_exactly _ _ _ _).0 h in
        let w = r.1.within in
        let few : length (once_after [] y.links) ≤ 16384 = omega (arith, once_few [] y.links, w.few) in
        let fresh = once_fresh _ [] _ r.1.edges in
        let s : ◌≡◌ {A = Size} (record { nodes = y.nodes; links = length (once_after [] y.links) }) x = cc in
        rw (← s) (record {
          survey = links_accepted p q _ w.some_node w.size few fresh;
          links = y.links;
          file = r.0;
          exactly = λ a b. links_linked p q _ w.some_node w.size few fresh _ _ ∙ once_named _ _ _;
          count = rw (← once_graph y.nodes y.links) (links_number _ _ w.some_node w.size few fresh);
        })

-- ---- a survey exported and imported

module _ (n : ℕ) (starts neighbours : List ℕ) (acc : Accepted n starts neighbours) where
  -- its file is in form
  pub export_form : IsFile (export_of n starts neighbours) n (ordered n (neighbours_of starts neighbours))
  unfolding export_of file_text
  export_form =
      form_sound _ _ _ (head_stays _ _ _ ∙ ap₂ (λ (m : ℕ) (t : List ℕ). head_line n m ++ t) (half_count _ _ _ acc) (edges_stay _))

  -- and comes back unchanged
  pub import_back : (p q : ℕ) → n + 1 ≤ p → get_or starts n 0 ≤ q
      → importing (export_of n starts neighbours) p q ≡ as_read n starts neighbours p q
  import_back p q hp hq =
      let links = ordered n (neighbours_of starts neighbours) in
      let fresh = all_fresh _ _ _ acc in
      let read : FileRead p q (record { nodes = n; links = links }) =
      record { within = links_within _ _ _ acc _ _ hp hq; edges = fresh_edges _ [] links fresh } in
      import_taken _ _ _ _ export_form read
      ∙ ap (λ (ks : List (ℕ × ℕ)). reading_of p q (answered (record { nodes = n; links = ks }))) (once_same _ [] _ fresh)
      ∙ links_back _ _ _ acc _ _

  -- a survey's file, in a buffer that is long enough
  pub exporting_answers : (buffer : List ℕ) → length (export_of n starts neighbours) ≤ length buffer
      → exporting n starts neighbours buffer ≡ record {
        answer = answered (length (export_of n starts neighbours));
        buffer = over (export_of n starts neighbours) buffer;
      }
  unfolding exporting
  exporting_answers buffer h = rw (accepting_answers _ _ _ acc) (write_whole _ _ h)

-- written into a buffer and imported from it, it is the same survey
pub export_right : (n : ℕ) (starts neighbours buffer : List ℕ) → ExportRight n starts neighbours (exporting n starts neighbours buffer)
unfolding exporting
export_right n starts neighbours buffer k e p q hp hq =
    let w = written _ _ _ _ e in
    rw w.1 (import_back _ _ _ (accepting_facts _ _ _ _ w.0) _ _ hp hq)
