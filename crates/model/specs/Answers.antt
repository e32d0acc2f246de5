-- The answers of the open calls: a refusal's number, or a value. An open call is a function that a user calls, and it has no precondition.
-- A list that is lent to it is a slice argument.
-- Assumes nothing.
use Rattle.std.specs.Prelude.{Bool, true, false, List, [], ◌∷◌, ℕ, Result, Ok, Err}
use Rattle.model.specs.declared.Refusal.{Refusal}
use Rattle.model.specs.declared.Refusal.TheVariants.{Form, NodeCount, LinkCount, LineNode, EqualEnds, RepeatedLink, LineCount}
use Rattle.model.specs.declared.Refusal.TheVariants.{ShortList, NotSurvey, NoNode, NotAttained, ShortBuffer, FileForm, BadThreshold}
use Rattle.std.specs.Prelude.{if◌then◌else◌}

-- a refusal with its number, or the answer's value (rule 10.1)
pub data Outcome (A : Type 0) : Type 0 where
  refused : ℕ → Outcome A
  answered : A → Outcome A

-- f applied to the value; a refusal is kept (rule 10.1)
abbrev pub map_answer : {A B : Type 0} → (A → B) → Outcome A → Outcome B
map_answer f (refused k) = refused k
map_answer f (answered x) = answered (f x)

-- what f makes of the value; a refusal is kept, so that the first one is given (rule 10.1)
abbrev pub and_then : {A B : Type 0} → Outcome A → (A → Outcome B) → Outcome B
and_then (refused k) f = refused k
and_then (answered x) f = f x

-- not refused (rule 10.1)
abbrev pub is_answered : {A : Type 0} → Outcome A → Bool
is_answered (refused k) = false
is_answered (answered x) = true

-- rule 10.1: the number of each refusal
abbrev pub number : Refusal → ℕ
number Form = 1
number NodeCount = 2
number LinkCount = 3
number LineNode = 4
number EqualEnds = 5
number RepeatedLink = 6
number LineCount = 7
number ShortList = 8
number NotSurvey = 9
number NoNode = 10
number NotAttained = 11
number ShortBuffer = 12
number FileForm = 13
number BadThreshold = 14

infix 10 ◌when◌
-- a refusal by its number, which applies where the test is true (rule 10.1)
abbrev pub ◌when◌ : ℕ → Bool → ℕ × Bool
k when t = (k, t)

-- a call's refusals, in their order (rule 10.1)
abbrev pub Refusals : Type 0
Refusals = List (ℕ × Bool)

-- rule 10.1: the call refuses, as `refuse` says, with the number of the first of them that applies; where none does, it is `done`
abbrev pub judged : {A : Type 0} → (refuse : ℕ → A) → Refusals → (done : A) → A
judged refuse [] done = done
judged refuse (c ∷ cs) done = if c.1 then refuse c.0 else judged refuse cs done

-- what a call of the code answers: its value, or the refusal's number (rules 10.5 to 10.12, 11.4, 13.7 and 13.8)
abbrev pub outcome : {A : Type 0} → Result A Refusal → Outcome A
outcome (Err r) = refused (number r)
outcome (Ok x) = answered x
