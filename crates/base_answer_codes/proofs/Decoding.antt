-- The number that C gets determines the answer: what is read back from an answer's number is the answer, for each kind of answer.
-- Assumes nothing.
use mathlib.Core.Path.{◌≡◌, refl, sym, ap, ap₂, ◌∙◌, subst}
use Prim.Native.Nat.{ℕ, ◌*◌, ◌/◌, ◌%◌, ◌^◌, ◌<◌}
use native.Mathlib.Omega.{arith}
use borrow.Author.Tests.{ne_eqb}
use lib.Bits.{and_mask}
use Rattle.model.specs.declared.Refusal.{Refusal}
use Rattle.model.specs.declared.Size.{Size}
use Rattle.model.specs.declared.Route.{Route}
use Rattle.model.specs.declared.Route.TheVariants.{Itself, Low, Through, NoRoute, Link}
use Rattle.model.specs.declared.Answer.{Answer}
use Rattle.model.specs.declared.Verdict.{Verdict}
use Rattle.model.specs.declared.Verdict.TheVariants.{Parted, Long, Short}
use Rattle.model.specs.declared.TestResult.{TestResult}
use Rattle.model.specs.Answers.{Outcome, refused, answered, number}
use Rattle.model.proofs.Outcomes.{never, number_bounds}
use Rattle.base_answer_codes.specs.Code.{no_field, count_field, size_field, answer_field, test_field}
use Rattle.base_answer_codes.specs.Code.{route_number, hub_number, verdict_number, field, decoded}
use Rattle.base_answer_codes.specs.Code.{no_value, count_in, size_in, route_in, answer_in, verdict_in, test_in, IsCode}

-- a mask is a remainder
masked : (k x y : ℕ) → x / 2 ^ k % 65536 ≡ y → field k x ≡ y
unfolding field
masked k x y e = and_mask (x / 2 ^ k) 16 ∙ e

-- ---- a refusal, or a value

pub refusal_code : {A : Type 0} (values : A → ℕ) (value : ℕ → A) (r : Refusal)
    → {o : Outcome A} {k : ℕ} → o ≡ refused (number r) → k ≡ number r → IsCode values value o k
unfolding decoded count_in
refusal_code values value r e i =
    let b = number_bounds r in
    let f : field 0 (number r) ≡ number r = masked 0 (number r) (number r) (omega arith) in
    let ne : number r ≡ 0 → ⊥ = λ z. omega arith in
    rw (e, i) (record { coded = refl; back = rw (f, ne_eqb (number r) 0 ne) refl; alone = λ _ _. omega arith })

pub answer_code : {A : Type 0} (values : A → ℕ) (value : ℕ → A) (x : A) → value (65536 * values x) ≡ x
    → {o : Outcome A} {k : ℕ} → o ≡ answered x → k ≡ 65536 * values x → IsCode values value o k
unfolding decoded
answer_code values value x back e i =
    let f : field 0 (65536 * values x) ≡ 0 = masked 0 (65536 * values x) 0 (omega arith) in
    rw (e, i) (record { coded = refl; back = rw (f, back) refl; alone = λ _ z. never (sym z) })

-- ---- each kind of value

pub none_back : no_value (65536 * no_field tt) ≡ tt
none_back = refl

pub count_back : (k : ℕ) → count_in (65536 * count_field k) ≡ k
unfolding count_in
count_back k = omega arith

pub size_back : (x : Size) → x.nodes < 65536 → x.links < 65536 → size_in (65536 * size_field x) ≡ x
unfolding size_in
size_back x hn hl = λ i. record {
  nodes = masked 16 (65536 * size_field x) x.nodes (omega arith) i;
  links = masked 32 (65536 * size_field x) x.links (omega arith) i;
}

route_back : (t : Route) → route_in (route_number t) (hub_number t) ≡ t
unfolding route_in
route_back Itself = refl
route_back Low = refl
route_back (Through h) = refl
route_back NoRoute = refl
route_back Link = refl

route_small : (t : Route) → route_number t < 65536
route_small Itself = omega arith
route_small Low = omega arith
route_small (Through h) = omega arith
route_small NoRoute = omega arith
route_small Link = omega arith

pub pair_back : (x : Answer) → x.report < 65536 → answer_in (65536 * answer_field x) ≡ x
unfolding answer_in
pair_back x h =
    let k = route_number x.route in
    let b = hub_number x.route in
    let n = 65536 * answer_field x in
    let few = route_small x.route in
    let above : n / 2 ^ 48 ≡ b = omega arith in
    λ i. record {
      report = masked 16 n x.report (omega arith) i;
      route = (ap₂ route_in (masked 32 n k (omega arith)) above ∙ route_back x.route) i;
    }

verdict_back : (v : Verdict) → verdict_in (verdict_number v) ≡ v
unfolding verdict_in
verdict_back Parted = refl
verdict_back Long = refl
verdict_back Short = refl

verdict_small : (v : Verdict) → verdict_number v < 65536
verdict_small Parted = omega arith
verdict_small Long = omega arith
verdict_small Short = omega arith

pub test_back : (x : TestResult) → x.searches < 65536 → test_in (65536 * test_field x) ≡ x
unfolding test_in
test_back x h =
    let n = 65536 * test_field x in
    let few = verdict_small x.verdict in
    λ i. record {
      verdict = (ap verdict_in (masked 16 n (verdict_number x.verdict) (omega arith)) ∙ verdict_back x.verdict) i;
      searches = masked 32 n x.searches (omega arith) i;
    }

-- ---- a call for C passes on what the call below it promises

-- `whole` puts an answer beside what was left in the lists; x is the call's outcome, and P what is promised of it
pub passed_on : {A X : Type 0} (values : A → ℕ) (value : ℕ → A) (answer : X → Outcome A) (whole : Outcome A → X) (P : X → Type 0)
    → ((o : Outcome A) → answer (whole o) ≡ o) → {o : Outcome A} {k : ℕ} {x : X} → IsCode values value o k → whole o ≡ x → P (whole o)
    → IsCode values value (answer x) k × ((whole (decoded value k) ≡ x) × P (whole (decoded value k)))
passed_on values value answer whole P beside {o} {k} i e p = (
  subst (λ (q : Outcome _). IsCode values value q k) (sym (beside o) ∙ ap answer e) i,
  (ap whole i.back ∙ e, subst (λ (q : Outcome _). P (whole q)) (sym i.back) p),
)
