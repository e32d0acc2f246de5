-- The values of every answer are within the limits of a survey, so that each fits its field of the code.
-- Assumes nothing.
use mathlib.Core.Path.{◌≡◌, refl, subst}
use mathlib.Core.List.{List, [], ◌∷◌}
use Prim.Native.Nat.{ℕ, ◌*◌, ◌≤◌}
use native.Mathlib.Nat.{le_trans, mul-le-mul}
use native.Mathlib.Omega.{arith}
use lib.Dec.{ltb}
use lib.ListN.{length}
use Rattle.model.specs.declared.Size.{Size}
use Rattle.model.specs.declared.TestResult.{TestResult}
use Rattle.model.specs.Answers.{Outcome, refused, answered, map_answer, ◌when◌}
use Rattle.model.specs.Survey.{Graph, neighbours_of, bad_size, accepting, Accepted}
use Rattle.model.specs.Threshold.{threshold, in_force, threshold_answer, bit_length}
use Rattle.model.specs.Hubs.{closed}
use Rattle.model.specs.Reading.{Parsed, parse, reading_of, reading}
use Rattle.model.specs.TwoOrFour.{sources, test_result}
use Rattle.model.specs.Testing.{test_refusals, testing}
use Rattle.model.specs.Demand.{IsBuilt}
use Rattle.model.specs.Writing.{AfterWriting, text_of, writing_of, writing}
use Rattle.model.specs.Dimacs.{uncommented, file_of, kept_once, importing, export_of, exporting}
use Rattle.model.proofs.Tests.{picked}
use Rattle.model.proofs.Outcomes.{never, judged_none}
use Rattle.model.proofs.Verdicts.{Sources, round, covers, source_cases}
use Rattle.model.proofs.Links.{parse_sound}
use Rattle.model.proofs.Dimacs.{file_exactly, once_few}
use Rattle.model.proofs.Sizes.{most_text, most_file, text_few, file_few}
use Rattle.model.proofs.Acceptance.{size_bounds, tests_facts, accepting_facts, few_neighbours}
use Rattle.model.proofs.Covering.{hubs_length}
use Rattle.model.proofs.Threshold.{bit_length_is, threshold_is}

-- reading and importing: n and m, within the limits of what the text says
size_fits : (p q : ℕ) (o : Outcome Parsed) {x : Size} → ((y : Parsed) → o ≡ answered y → (y.nodes ≤ 1024) × (length y.links ≤ 16384))
    → (reading_of p q o).answer ≡ answered x → (x.nodes ≤ 1024) × (x.links ≤ 16384)
unfolding reading_of
size_fits p q (refused k) f e = never e
size_fits p q (answered y) {x} f e =
    let s : ◌≡◌ {A = Size} (record { nodes = y.nodes; links = length y.links }) x = cc e in
    subst (λ (z : Size). (z.nodes ≤ 1024) × (z.links ≤ 16384)) s (f y refl)

pub read_fits : (text : List ℕ) (p q : ℕ) {x : Size} → (reading text p q).answer ≡ answered x → (x.nodes ≤ 1024) × (x.links ≤ 16384)
unfolding reading
read_fits text p q =
    size_fits p q (parse 1024 16384 p q text)
    (λ y h. let w = (parse_sound 1024 16384 p q text y h).within in (w.size, w.few))

pub import_fits : (text : List ℕ) (p q : ℕ) {x : Size} → (importing text p q).answer ≡ answered x → (x.nodes ≤ 1024) × (x.links ≤ 16384)
unfolding importing
import_fits text p q = size_fits p q (map_answer kept_once said) (λ y. at y said refl)
  where
    said : Outcome Parsed
    said = file_of p q (uncommented text)

    at : (y : Parsed) (o : Outcome Parsed) → file_of p q (uncommented text) ≡ o → map_answer kept_once o ≡ answered y
        → (y.nodes ≤ 1024) × (length y.links ≤ 16384)
    at y (refused k) h e = never e
    at y (answered z) h e =
        let w = ((file_exactly p q text z).0 h).1.within in
        let s : ◌≡◌ {A = Parsed} (kept_once z) y = cc e in
        subst (λ (u : Parsed). (u.nodes ≤ 1024) × (length u.links ≤ 16384)) s
        (w.size, omega (arith, once_few [] z.links, w.few))

-- building: the count of hubs
pub hubs_fit : {n s : ℕ} {starts neighbours full low report list : List ℕ} {k : ℕ}
    → IsBuilt n s starts neighbours full low report list k → k ≤ 1024
hubs_fit {n} {s} {starts} {neighbours} b = omega (arith, b.count, hubs_length n (neighbours_of starts neighbours) s, b.survey.size)

-- the threshold
few : (n : ℕ) → n ≤ 1024 → threshold n ≤ 1024
few n h = (threshold_is n).least 1024 (small n (bit_length n) h ((bit_length_is n).least 11 (omega arith)))
  where
    small : (a b : ℕ) → a ≤ 1024 → b ≤ 11 → a * b ≤ 1024 * 1024
    small a b h k = le_trans (mul-le-mul h k) (omega arith)

pub threshold_fits : (n : ℕ) {k : ℕ} → threshold_answer n ≡ answered k → k ≤ 1024
unfolding threshold_answer
threshold_fits n {k} e =
    let p = judged_none ((2 when bad_size n) ∷ []) _ e in
    let j : threshold n ≡ k = cc p.1 in
    omega (arith, few n (size_bounds n p.0.0).1)

-- a text that is written: its length
pub written_length : (text buffer : List ℕ) {k : ℕ} → (writing_of (answered tt) text buffer).answer ≡ answered k → k ≡ length text
unfolding writing_of
written_length text buffer {k} =
    picked (λ (w : AfterWriting). w.answer ≡ answered k → k ≡ length text) (ltb (length buffer) (length text)) _ _
    (λ i e. never e) (λ i e. cc)

-- writing back and exporting: the text's length
text_length : (n : ℕ) (starts neighbours text buffer : List ℕ) (most : ℕ) → (Accepted n starts neighbours → length text ≤ most)
    → {k : ℕ} → (writing_of (accepting n starts neighbours) text buffer).answer ≡ answered k → k ≤ most
unfolding writing_of
text_length n starts neighbours text buffer most few {k} = at (accepting n starts neighbours) refl
  where
    at : (o : Outcome (Unit {0})) → accepting n starts neighbours ≡ o → (writing_of o text buffer).answer ≡ answered k → k ≤ most
    at (refused r) h e = never e
    at (answered x) h e = omega (arith, written_length text buffer e, few (accepting_facts n starts neighbours x h))

pub text_fits : (n : ℕ) (starts neighbours buffer : List ℕ) {k : ℕ} → (writing n starts neighbours buffer).answer ≡ answered k → k ≤ most_text
unfolding writing
text_fits n starts neighbours buffer = text_length _ _ _ (text_of n starts neighbours) buffer _ (text_few _ _ _)

pub file_fits : (n : ℕ) (starts neighbours buffer : List ℕ) {k : ℕ} → (exporting n starts neighbours buffer).answer ≡ answered k → k ≤ most_file
unfolding exporting
file_fits n starts neighbours buffer = text_length _ _ _ (export_of n starts neighbours) buffer _ (file_few _ _ _)

-- testing: the count of searches
sources_few : (n : ℕ) (starts neighbours : List ℕ) (s : ℕ) → Accepted n starts neighbours
    → length (sources n s (neighbours_of starts neighbours)) ≤ 1024
unfolding closed
sources_few n starts neighbours s acc = at (source_cases n s G acc.lists.graph acc.size)
  where
    G : Graph
    G = neighbours_of starts neighbours

    at : {hs : List ℕ} → Sources n s G acc.lists.graph acc.size hs → length hs ≤ 1024
    at (round v h t l) = omega (arith, few_neighbours n starts neighbours acc v h, acc.size)
    at (covers f) = omega (arith, hubs_length n G s, acc.size)

pub searches_fit : (n t : ℕ) (starts neighbours : List ℕ) {r : TestResult} → testing n t starts neighbours ≡ answered r → r.searches ≤ 1024
unfolding testing test_result
searches_fit n t starts neighbours {r} e =
    let p = judged_none (test_refusals n t starts neighbours) _ e in
    let lists = p.0.1.1 in
    let j : ◌≡◌ {A = TestResult} (test_result n (in_force n t) (neighbours_of starts neighbours)) r = cc p.1 in
    subst (λ (y : TestResult). y.searches ≤ 1024) j
    (sources_few n starts neighbours (in_force n t) (tests_facts n starts neighbours p.0.0 lists.0 lists.1.0))
