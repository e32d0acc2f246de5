-- What the greatest depth of the searches says.
-- Assumes nothing.
use Rattle.std.specs.Prelude.{if◌then◌else◌, Option, None, Some, List, ℕ, ltb, length}
use Rattle.model.specs.declared.Verdict.{Verdict}
use Rattle.model.specs.declared.Verdict.TheVariants.{Parted, Long, Short}
use Rattle.model.specs.declared.TestResult.{TestResult}
use Rattle.model.specs.Survey.{Graph}
use Rattle.model.specs.TwoOrFour.{verdict_of}

-- the verdict on the greatest distance, None where a search misses a node
unfoldable pub of_depth : Option ℕ → Verdict
of_depth None = Parted
of_depth (Some d) = if ltb 2 d then Long else Short

-- the result of searches from the nodes of a list
abbrev pub of_searches : ℕ → Graph → List ℕ → TestResult
of_searches n G list = record { verdict = verdict_of n G list; searches = length list }
