-- Answers as one number of 64 bits, for callers in C, and how such a number is read back.
-- Assumes nothing.
use Rattle.std.specs.Prelude.{◌≡◌, List, ℕ, ◌+◌, ◌*◌, ◌/◌, ◌^◌, eqb}
use Rattle.std.specs.Int.Bits.{bit_and}
use Rattle.model.specs.declared.Size.{Size}
use Rattle.model.specs.declared.Route.{Route}
use Rattle.model.specs.declared.Route.TheVariants.{Itself, Low, Through, NoRoute, Link}
use Rattle.model.specs.declared.Answer.{Answer}
use Rattle.model.specs.declared.Verdict.{Verdict}
use Rattle.model.specs.declared.Verdict.TheVariants.{Parted, Long, Short}
use Rattle.model.specs.declared.TestResult.{TestResult}
use Rattle.model.specs.Answers.{Outcome, refused, answered}
use Rattle.std.specs.Prelude.{if◌then◌else◌}
use Rattle.model.specs.Reading.{AfterReading}
use Rattle.model.specs.Writing.{AfterWriting}
use Rattle.model.specs.Building.{AfterBuilding}
use Rattle.model.specs.Walking.{AfterWalking}

-- ---- an answer's number

-- the low 16 bits are the refusal's number, or 0 where there is an answer; above them stand the answer's values
abbrev pub code : {A : Type 0} → (values : A → ℕ) → Outcome A → ℕ
code values (refused k) = k
code values (answered x) = 65536 * values x

-- acceptance has no value
abbrev pub no_field : Unit {0} → ℕ
no_field x = 0

-- a count has the 48 bits that are left
abbrev pub count_field : ℕ → ℕ
count_field k = k

-- two fields of 16 bits: nodes, then links
abbrev pub size_field : Size → ℕ
size_field x = x.nodes + 65536 * x.links

abbrev pub route_number : Route → ℕ
route_number Itself = 0
route_number Low = 1
route_number (Through h) = 2
route_number NoRoute = 3
route_number Link = 4

-- the hub that a route goes through, or 0
abbrev pub hub_number : Route → ℕ
hub_number Itself = 0
hub_number Low = 0
hub_number (Through h) = h
hub_number NoRoute = 0
hub_number Link = 0

-- three fields of 16 bits: the report, the route, its hub
abbrev pub answer_field : Answer → ℕ
answer_field x = x.report + 65536 * (route_number x.route + 65536 * hub_number x.route)

abbrev pub verdict_number : Verdict → ℕ
verdict_number Parted = 0
verdict_number Long = 1
verdict_number Short = 2

-- two fields of 16 bits: the verdict, then the count of searches
abbrev pub test_field : TestResult → ℕ
test_field x = verdict_number x.verdict + 65536 * x.searches

-- ---- and back, by the shifts and masks of include/puxerdau.h

-- `x >> k & 65535`
unfoldable pub field : ℕ → ℕ → ℕ
field k x = bit_and (x / 2 ^ k) 65535

-- a refusal where the low 16 bits are not 0, else the value
unfoldable pub decoded : {A : Type 0} → (value : ℕ → A) → ℕ → Outcome A
decoded value x = if eqb (field 0 x) 0 then answered (value x) else refused (field 0 x)

unfoldable pub no_value : ℕ → Unit {0}
no_value x = tt

-- `x >> 16`
unfoldable pub count_in : ℕ → ℕ
count_in x = x / 2 ^ 16

unfoldable pub size_in : ℕ → Size
size_in x = record { nodes = field 16 x; links = field 32 x }

unfoldable pub route_in : (number hub : ℕ) → Route
route_in k h = if eqb k 0 then Itself else if eqb k 1 then Low else if eqb k 2 then Through h else if eqb k 3 then NoRoute else Link

-- the hub is `x >> 48`
unfoldable pub answer_in : ℕ → Answer
answer_in x = record { report = field 16 x; route = route_in (field 32 x) (x / 2 ^ 48) }

unfoldable pub verdict_in : ℕ → Verdict
verdict_in k = if eqb k 0 then Parted else if eqb k 1 then Long else Short

unfoldable pub test_in : ℕ → TestResult
test_in x = record { verdict = verdict_in (field 16 x); searches = field 32 x }

-- x is the number of the outcome o; o is what is read back from x; and all fields above a refusal's number are 0
pub record IsCode {A : Type 0} (values : A → ℕ) (value : ℕ → A) (o : Outcome A) (x : ℕ) : Type 0 where
  pub coded : x ≡ code values o
  pub back : decoded value x ≡ o
  pub alone : (k : ℕ) → o ≡ refused k → count_in x ≡ 0

-- ---- what a call for C returned, read back, and left in the lists that were lent to it

abbrev pub read_decoded : ℕ → (starts neighbours : List ℕ) → AfterReading
read_decoded x starts neighbours = record { answer = decoded size_in x; starts = starts; neighbours = neighbours }

abbrev pub write_decoded : ℕ → (buffer : List ℕ) → AfterWriting
write_decoded x buffer = record { answer = decoded count_in x; buffer = buffer }

abbrev pub build_decoded : ℕ → (full low report list : List ℕ) → AfterBuilding
build_decoded x full low report list = record { answer = decoded count_in x; full = full; low = low; report = report; hubs = list }

abbrev pub walk_decoded : ℕ → (walk : List ℕ) → AfterWalking
walk_decoded x walk = record { answer = decoded answer_in x; walk = walk }
