-- The two-or-four test (Algorithm 2-vs-4), with its count of searches.
-- Assumes nothing.
use Rattle.std.specs.Prelude.{List, ℕ, eqb, ltb, length}
use Rattle.model.specs.declared.Verdict.{Verdict}
use Rattle.model.specs.declared.Verdict.TheVariants.{Parted, Long, Short}
use Rattle.model.specs.declared.TestResult.{TestResult}
use Rattle.model.specs.Basics.{none, up_to, any, first_of}
use Rattle.std.specs.Prelude.{if◌then◌else◌}
use Rattle.model.specs.Graph.{fewest, linked}
use Rattle.model.specs.Survey.{Graph}
use Rattle.model.specs.Hubs.{is_low, closed, hubs}

-- rule 7.1: the sources of the searches (breadth-first searches of the whole graph)
unfoldable pub sources : ℕ → ℕ → Graph → List ℕ
sources n s G = let v = first_of (is_low s G) none (up_to n) in if eqb v none then hubs n s G else closed G v

-- rule 7.2: parted if a search misses a node, else long if one goes deeper than 2, else short. A search goes as deep as the greatest
-- distance from its source
unfoldable pub verdict_of : ℕ → Graph → List ℕ → Verdict
verdict_of n G list =
    let distance : ℕ → ℕ → ℕ = fewest (linked n G) n in
    if any (λ a. any (λ b. eqb (distance a b) none) (up_to n)) list then Parted
    else if any (λ a. any (λ b. ltb 2 (distance a b)) (up_to n)) list then Long
    else Short

-- rules 7.2 and 7.3: the verdict, with the count of searches
unfoldable pub test_result : ℕ → ℕ → Graph → TestResult
test_result n s G = let list = sources n s G in record { verdict = verdict_of n G list; searches = length list }
