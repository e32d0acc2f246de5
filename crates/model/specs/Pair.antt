-- The answer to a pair: its report with a route.
-- Assumes nothing.
use Rattle.std.specs.Prelude.{Bool, not, ◌&&◌, ◌||◌, List, ℕ, eqb, leb, take}
use Rattle.model.specs.declared.Route.{Route}
use Rattle.model.specs.declared.Route.TheVariants.{Itself, Low, Through, NoRoute, Link}
use Rattle.model.specs.declared.Answer.{Answer}
use Rattle.model.specs.Answers.{Outcome, refused, answered}
use Rattle.model.specs.Basics.{none, up_to, has, first_of}
use Rattle.std.specs.Prelude.{if◌then◌else◌}
use Rattle.model.specs.Tables.{entry_at, via}

-- refusal 10: one of two nodes is n or more (rule 10.8)
abbrev pub bad_pair : (n a b : ℕ) → Bool
bad_pair n a b = leb n a || leb n b

-- rule 6.1: a report with a route
abbrev pub with_route : ℕ → Route → Answer
with_route r t = record { report = r; route = t }

-- rules 6.2 and 10.8: the report r with the route that attains it, where l is the entry of Low and h the hub that attains r, or none. A
-- report of 1 between different nodes is by the link. Refused 11 where no route attains r, or where a = b and r is not 0
unfoldable pub choose : (a b r l h : ℕ) → Outcome Answer
choose a b r l h =
    if eqb a b then (if eqb r 0 then answered (with_route 0 Itself) else refused 11)
    else if eqb r none then answered (with_route none NoRoute)
    else if eqb r 1 then answered (with_route 1 Link)
    else if eqb l r then answered (with_route r Low)
    else if eqb h none then refused 11
    else answered (with_route r (Through h))

-- rule 6.2: the smallest hub that attains the report r, or none
unfoldable pub attaining : (ℕ → Bool) → ℕ → List ℕ → (a b r : ℕ) → ℕ
attaining isHub n full a b r = first_of (λ h. isHub h && eqb (via n full a b h) r) none (up_to n)

-- rule 6.3: what is taken as a hub where no hub list is lent
unfoldable pub taken : ℕ → List ℕ → (a b : ℕ) → ℕ → Bool
taken n full a b h = not (eqb (entry_at n full h a) none) && not (eqb (entry_at n full h b) none)

-- the hubs of a lent hub list (rule 4.7)
unfoldable pub listed : ℕ → List ℕ → ℕ → Bool
listed n list h = has h (take n list)

-- rule 6.1: the answer that the tables give for nodes below n, with hubs as the test says
unfoldable pub pair_by : (ℕ → Bool) → (n : ℕ) (full low report : List ℕ) (a b : ℕ) → Outcome Answer
pair_by isHub n full low report a b =
    let r = entry_at n report a b in
    choose a b r (entry_at n low a b) (attaining isHub n full a b r)

-- rule 6.3: with no hub list lent
unfoldable pub pair : (n : ℕ) (full low report : List ℕ) (a b : ℕ) → Outcome Answer
pair n full low report a b = pair_by (taken n full a b) n full low report a b
