-- The threshold between low and high nodes: the degree bound of the method.
-- Assumes nothing.
use Rattle.std.specs.Prelude.{Bool, [], ◌∷◌, ℕ, ◌+◌, ◌*◌, ◌^◌, eqb, ltb, leb}
use Rattle.model.specs.Answers.{Outcome, refused, answered, ◌when◌, judged}
use Rattle.model.specs.Basics.{none, up_to, first_of}
use Rattle.std.specs.Prelude.{if◌then◌else◌}
use Rattle.model.specs.Survey.{bad_size}

-- rule 4.1: the smallest k with n below 2 ^ k
unfoldable pub bit_length : ℕ → ℕ
bit_length n = first_of (λ k. ltb n (2 ^ k)) none (up_to (n + 1))

-- rule 4.2: the smallest s with s × s at least n × L(n)
unfoldable pub threshold : ℕ → ℕ
threshold n = let w = n * bit_length n in first_of (λ s. leb w (s * s)) none (up_to (w + 1))

-- rule 4.3: the threshold in force, where the caller gives t
unfoldable pub in_force : (n t : ℕ) → ℕ
in_force n t = if eqb t 0 then threshold n else t

-- refusal 14 (rule 10.1)
unfoldable pub bad_threshold : ℕ → Bool
bad_threshold t = ltb 1024 t

-- rule 10.12: the threshold as an open call (docs/DECISIONS.md, 13)
unfoldable pub threshold_answer : ℕ → Outcome ℕ
threshold_answer n = judged refused ((2 when bad_size n) ∷ []) (answered (threshold n))
