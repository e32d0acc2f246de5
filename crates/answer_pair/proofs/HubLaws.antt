-- What a search over the nodes for the smallest hub finds.
-- Assumes nothing.
use Rattle.std.specs.Prelude.{◌≡◌, Bool, true, false, ◌&&◌, Option, None, Some, List, ℕ, ◌≤◌, ◌<◌, eqb}
use Rattle.std.specs.Option.{MatchOption}
use Rattle.std.proofs.Common.{arith, zero-le}
use Rattle.std.proofs.lemmas.Bool.Decides.{nat_tests}
use Rattle.model.specs.Basics.{none, up_to, first_of}
use Rattle.model.specs.Tables.{via}
use Rattle.model.specs.Pair.{taken}
use Rattle.model.proofs.Lists.{First, found, nothing, first_is, first_below}
use Rattle.answer_pair.specs.Node.{node}

-- h counts as a hub and attains the report r
abbrev pub attains : (n : ℕ) (full : List ℕ) (a b r h : ℕ) → Bool
attains n full a b r h = taken n full a b h && eqb (via n full a b h) r

-- the first number below n that passes a test, or none, is the first of their list
pub first_found : (p : ℕ → Bool) (n : ℕ) (r : Option ℕ) → n ≤ none
    → MatchOption r ((k : ℕ) → 0 ≤ k → k < n → p k ≡ false)
    (λ i. (0 ≤ i) × (i < n) × (p i ≡ true) × ((k : ℕ) → 0 ≤ k → k < i → p k ≡ false))
    → r ≡ node (first_of p none (up_to n))
first_found p n None l h = at (first_below p none n)
  where
    at : {x : ℕ} → First p none 0 n x → None ≡ node x
    at (found lo hi t least) = absurd (rw (h _ lo (omega arith)) at t)
    at (nothing e all) = rw e
first_found p n (Some i) l h =
    let e : first_of p none (up_to n) ≡ i = first_is p none n i h.1 (rw h.2 tt) (λ k l t. rw (h.3 k zero-le l) at t) in
    let ne : eqb i none ≡ false = grind (arith, nat_tests) in
    rw (e, ne)
