-- Laws of outcomes: a refusal is no answer, and a missing value is no value; refusals in their order; where there is an answer, each step
-- before it was passed; promises of outcomes; the number in an outcome; how large a refusal's number is.
-- Assumes nothing.
use mathlib.Core.Path.{◌≡◌, refl, sym, subst}
use mathlib.Core.Bool.{Bool, true, false, ◌||◌}
use mathlib.Core.List.{[], ◌∷◌}
use mathlib.Core.Option.{none as missing, some}
use Prim.Native.Nat.{ℕ, ◌<◌}
use native.Mathlib.Omega.{arith}
use Rattle.model.specs.declared.Refusal.{Refusal}
use Rattle.model.specs.declared.Refusal.TheVariants.{Form, NodeCount, LinkCount, LineNode, EqualEnds, RepeatedLink, LineCount}
use Rattle.model.specs.declared.Refusal.TheVariants.{ShortList, NotSurvey, NoNode, NotAttained, ShortBuffer, FileForm, BadThreshold}
use Rattle.model.specs.Answers.{Outcome, refused, answered, map_answer, and_then, number, Refusals, ◌when◌, judged}
use Rattle.model.proofs.Tests.{picked}

pub never : {A B : Type 0} {k : ℕ} {x : A} → refused k ≡ answered x → B
never {k = k} {x = x} e = let z : ◌≡◌ {A = ℕ} 0 1 = cc in absurd (omega arith)

pub no_value : {A B : Type 0} {x : A} → missing ≡ some x → B
no_value {x = x} e = let z : ◌≡◌ {A = ℕ} 0 1 = cc in absurd (omega arith)

-- none of the refusals applies
abbrev pub NoneApplies : Refusals → Type 0
NoneApplies [] = Unit {0}
NoneApplies (c ∷ cs) = (c.1 ≡ false) × NoneApplies cs

-- then nothing is refused
pub judged_done : {A : Type 0} (refuse : ℕ → A) (cs : Refusals) (done : A) → NoneApplies cs → judged refuse cs done ≡ done
judged_done refuse [] done p = refl
judged_done refuse (c ∷ cs) done p = rw p.0 (judged_done refuse cs done p.1)

-- what holds of every refusal, and of what is done where none applies, holds of what is judged
pub of_judged : {A : Type 0} (P : A → Type 0) (refuse : ℕ → A) (cs : Refusals) (done : A)
    → ((k : ℕ) → P (refuse k)) → (NoneApplies cs → P done) → P (judged refuse cs done)
of_judged P refuse [] done f g = g tt
of_judged P refuse (c ∷ cs) done f g =
    picked P c.1 _ _ (λ _. f c.0) (λ e. of_judged P refuse cs done f (λ p. g (e, p)))

-- two tests of one refusal are one
pub judged_either : {A : Type 0} (refuse : ℕ → A) (k : ℕ) (a b : Bool) (cs : Refusals) (done : A)
    → judged refuse ((k when a) ∷ (k when b) ∷ cs) done ≡ judged refuse ((k when a || b) ∷ cs) done
judged_either refuse k true b cs done = refl
judged_either refuse k false b cs done = refl

-- where there is an answer, none applies
pub judged_none : {A : Type 0} (cs : Refusals) (o : Outcome A) {x : A} → judged refused cs o ≡ answered x
    → NoneApplies cs × (o ≡ answered x)
judged_none cs o {x} = of_judged (λ q. q ≡ answered x → NoneApplies cs × (o ≡ answered x)) refused cs o (λ k e. never e) (λ p e. (p, e))

-- what was answered in two steps: each of them was answered
pub of_then : {A B : Type 0} (o : Outcome A) (f : A → Outcome B) {x : B} → and_then o f ≡ answered x
    → (y : A) × (o ≡ answered y) × (f y ≡ answered x)
of_then (refused k) f e = never e
of_then (answered y) f e = (y, refl, e)

pub of_mapped : {A B : Type 0} (f : A → B) (o : Outcome A) {x : B} → map_answer f o ≡ answered x → (y : A) × (o ≡ answered y) × (f y ≡ x)
of_mapped f (refused k) e = never e
of_mapped f (answered y) e = (y, refl, cc)

-- what holds of an outcome x holds of what a call returned and left, r, if that is x
pub promised : {A : Type 0} (P : A → Type 0) {x r : A} → P x → r ≡ x → (r ≡ x) × P r
promised P h e = (e, subst P (sym e) h)

-- the number of a refusal, or that of the value
unfoldable pub number_in : {A : Type 0} → (A → ℕ) → Outcome A → ℕ
number_in f (refused k) = k
number_in f (answered x) = f x

-- a refusal's number has one or two digits and is not 0, which stands for an answer
pub number_bounds : (r : Refusal) → (0 < number r) × (number r < 100)
number_bounds Form = omega arith
number_bounds NodeCount = omega arith
number_bounds LinkCount = omega arith
number_bounds LineNode = omega arith
number_bounds EqualEnds = omega arith
number_bounds RepeatedLink = omega arith
number_bounds LineCount = omega arith
number_bounds ShortList = omega arith
number_bounds NotSurvey = omega arith
number_bounds NoNode = omega arith
number_bounds NotAttained = omega arith
number_bounds ShortBuffer = omega arith
number_bounds FileForm = omega arith
number_bounds BadThreshold = omega arith
