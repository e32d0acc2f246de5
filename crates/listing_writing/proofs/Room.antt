-- No listing is longer than `most_listing`.
-- Assumes nothing.
use mathlib.Core.Path.{◌≡◌, refl, ap}
use mathlib.Core.Logic.{◌⊎◌, inl, inr, ⊎_elim}
use mathlib.Core.Bool.{Bool}
use mathlib.Core.List.{List, [], ◌∷◌, ◌++◌}
use Prim.Native.Nat.{ℕ, zero, suc, ◌+◌, ◌-◌, ◌*◌, ◌≤◌, ◌<◌}
use native.Mathlib.Nat.{zero-add, suc-mul, mul-suc, mul-le-mul}
use native.Mathlib.Omega.{arith}
use borrow.Author.Tests.{eqb-false}
use lib.Dec.{T, eqb, ltb}
use lib.ListN.{length, length-append}
use Rattle.model.specs.declared.Refusal.{Refusal}
use Rattle.model.specs.declared.Route.{Route}
use Rattle.model.specs.declared.Route.TheVariants.{Itself, Low, Through, NoRoute, Link}
use Rattle.model.specs.declared.Answer.{Answer}
use Rattle.model.specs.Answers.{Outcome, number, refused, answered}
use Rattle.model.specs.Basics.{none, from, up_to, has, keep, gather}
use Rattle.model.specs.Numbers.{digits}
use Rattle.model.specs.SurveyText.{line_of}
use Rattle.model.specs.Survey.{Graph, IsGraph}
use Rattle.model.specs.Graph.{linked}
use Rattle.model.specs.Hubs.{hubs}
use Rattle.model.specs.Tables.{entry_at, full_table, low_table, report_table}
use Rattle.model.specs.Pair.{with_route, attaining, choose, pair_by, pair}
use Rattle.model.specs.Listing.{report_text, route_text, pair_line, pair_lines, listing_of, listing_text}
use Rattle.model.proofs.Acceptance.{linked_ends}
use Rattle.model.proofs.Allowance.{allowed}
use Rattle.model.proofs.Chains.{fewest_cases}
use Rattle.model.proofs.Covering.{hubs_length}
use Rattle.model.proofs.Lines.{length_line}
use Rattle.model.proofs.Lists.{has_head, has_tail, of_keep, of_up_to, length_from, First, found, nothing, first_below}
use Rattle.model.proofs.Loops.{above as above-is}
use Rattle.model.proofs.Listing.{by_pairs}
use Rattle.model.proofs.Numbers.{length_le}
use Rattle.model.proofs.Outcomes.{number_bounds}
use Rattle.model.proofs.Tests.{picked, eq_or}
use Rattle.listing_lines.specs.RowText.{answer_text}
use Rattle.listing_lines.proofs.Texts.{report_none, report_some}
use Rattle.listing_writing.specs.Length.{most_listing}

-- ---- one line

report_few : (r : ℕ) → (r < 1000) ⊎ (r ≡ none) → length (report_text r) ≤ 3
report_few r h = ⊎_elim
    (λ e. omega (arith, ap length (report_none r e)))
    (λ d. omega (arith, ap length (report_some r d), length_le 2 r (⊎_elim (λ l. l) (λ e. absurd (d e)) h)))
    (eq_or r none)

module _ (a b : ℕ) (ha : a < 1000) (hb : b < 1000) where
  line_few : (r : ℕ) (t : Route) → length (report_text r) + length (route_text t) ≤ 6
      → length (pair_line (a, b) (answered (with_route r t))) ≤ 18
  unfolding pair_line
  line_few r t h =
      let e5 = length-append (route_text t) (10 ∷ []) in
      let e4 = length-append (report_text r) (44 ∷ (route_text t ++ 10 ∷ [])) in
      let e3 = length-append (digits b) (44 ∷ (report_text r ++ 44 ∷ (route_text t ++ 10 ∷ []))) in
      let e2 = length-append (digits a) (44 ∷ (digits b ++ 44 ∷ (report_text r ++ 44 ∷ (route_text t ++ 10 ∷ [])))) in
      omega (arith, e2, e3, e4, e5, length_le 2 a (omega arith), length_le 2 b (omega arith))

  choice_few : (r l h : ℕ) → (r < 1000) ⊎ (r ≡ none) → ((h ≡ none → ⊥) → h < 1000) → length (pair_line (a, b) (choose a b r l h)) ≤ 18
  unfolding choose pair_line route_text
  choice_few r l h hr hh =
      let P : Outcome Answer → Type 0 = λ o. length (pair_line (a, b) o) ≤ 18 in
      let no : (k : ℕ) → P (refused k) = λ k. omega arith in
      picked P (eqb a b) _ _
      (λ _. picked P (eqb r 0) _ _ (λ _. line_few 0 Itself (omega (arith, report_few 0 (inl (omega arith))))) (λ _. no 11))
      (λ _. picked P (eqb r none) _ _ (λ _. line_few none NoRoute (omega (arith, report_few none (inr refl))))
      (λ _. picked P (eqb r 1) _ _ (λ _. line_few 1 Link (omega (arith, one_short)))
      (λ _. picked P (eqb l r) _ _ (λ _. line_few r Low (omega (arith, report_few r hr)))
      (λ _. picked P (eqb h none) _ _ (λ _. no 11)
      (λ f. line_few r (Through h) (omega (arith, report_few r hr, length_le 2 h (hh (eqb-false h none f)))))))))
    where
      one_short : length (report_text 1) ≤ 1
      one_short = omega (arith, ap length (report_some 1 (λ e. omega arith)), length_le 0 1 (omega arith))

  answer_few : (n : ℕ) (full low report : List ℕ) → n ≤ 128 → (entry_at n report a b < 1000) ⊎ (entry_at n report a b ≡ none)
      → length (answer_text n full low report a b) ≤ 18
  unfolding pair pair_by attaining
  answer_few n full low report size h = choice_few _ _ _ h (hub (first_below _ none n))
    where
      hub : {p : ℕ → Bool} {x : ℕ} → First p none 0 n x → (x ≡ none → ⊥) → x < 1000
      hub (found lo hi t least) f = omega arith
      hub (nothing e all) f = absurd (f e)

-- ---- many lines

gather_few : {B : Type 0} (f : ℕ → List B) (k : ℕ) (l : List ℕ) → ((x : ℕ) → T (has x l) → length (f x) ≤ k)
    → length (gather f l) ≤ length l * k
unfolding gather
gather_few f k [] h = omega arith
gather_few f k (x ∷ l) h =
    omega (
      arith,
      length-append (f x) (gather f l),
      suc-mul (length l) k,
      h x (has_head x l),
      gather_few f k l (λ y m. h y (has_tail y x l m)),
    )

-- k rows from a on, of which the first has 18 * (k - 1) elements at most, the next 18 fewer, and so on
rows_few : {B : Type 0} (f : ℕ → List B) (n k a : ℕ) → a + k ≡ n → ((x : ℕ) → x < n → length (f x) ≤ 18 * (n - (x + 1)))
    → 2 * length (gather f (from a k)) + 18 * k ≤ 18 * (k * k)
unfolding gather from
rows_few f n zero a e h = omega arith
rows_few f n (suc k) a e h =
    omega (
      arith,
      length-append (f a) (gather f (from (suc a) k)),
      h a (omega arith),
      rows_few f n k (suc a) (omega arith) h,
      suc-mul k (suc k),
      mul-suc k k,
    )

square_few : (n : ℕ) → n ≤ 128 → n * n ≤ 128 * 127 + n
square_few zero h = omega arith
square_few (suc m) h =
    let l : m ≤ 127 = omega arith in
    let p : m * suc m ≤ 127 * 128 = mul-le-mul l h in
    omega (arith, suc-mul m (suc m))

report_most : (n s : ℕ) (G : Graph) → IsGraph n G → n ≤ 128 → (a b : ℕ) → a < n → b < n
    → (entry_at n (report_table n s G) a b < 1000) ⊎ (entry_at n (report_table n s G) a b ≡ none)
report_most n s G g size a b ha hb =
    let r = allowed n s G g (omega arith) a b ha hb in
    ⊎_elim
    (λ c. inl (omega (arith, c.0, (r.near _ c.1).1)))
    (λ c. inr (r.no_route.1 c.1))
    (fewest_cases (linked n G) n a (linked_ends n G) ha b)

pub listing_few : (n s : ℕ) (G : Graph) → IsGraph n G → n ≤ 128 → length (listing_of n s G) ≤ most_listing
unfolding listing_of pair_lines up_to
listing_few n s G g size =
    let full : List ℕ = full_table n s G in
    let low : List ℕ = low_table n s G in
    let report : List ℕ = report_table n s G in
    let f : ℕ → ℕ → List ℕ = λ a b. answer_text n full low report a b in
    let above : ℕ → List ℕ = λ a. keep (λ b. ltb a b) (up_to n) in
    let first : List ℕ = line_of 82 n (length (hubs n s G)) in
    let pairs : List ℕ = pair_lines n full low report in
    let line : (a b : ℕ) → a < n → b < n → length (f a b) ≤ 18 = λ a b ha hb.
    answer_few a b (omega arith) (omega arith) n full low report size (report_most n s G g size a b ha hb) in
    let row : (a : ℕ) → a < n → length (gather (f a) (above a)) ≤ 18 * (n - (a + 1)) = λ a ha.
    omega (
      arith,
      gather_few (f a) 18 (above a) (λ b mb. line a b ha (of_up_to n b (of_keep (λ b. ltb a b) (up_to n) b mb).0)),
      ap length (above-is a n ha),
      length_from (a + 1) (n - (a + 1)),
    ) in
    omega (
      arith,
      length-append first pairs,
      length_line 82 n (length (hubs n s G)),
      length_le 2 n (omega arith),
      length_le 2 (length (hubs n s G)) (omega (arith, hubs_length n G s)),
      ap length (by_pairs (λ p. f p.0 p.1) n),
      rows_few (λ a. gather (f a) (above a)) n n 0 (zero-add n) row,
      square_few n size,
    )

-- ---- a refusal's line

pub refusal_few : (r : Refusal) {k : ℕ} → k ≡ number r → length (listing_text (refused k)) ≤ 5
unfolding listing_text
refusal_few r {k} e =
    omega (arith, length-append (digits k) (10 ∷ []), length_le 1 k (omega (arith, (number_bounds r).1, e)))
