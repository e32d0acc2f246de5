-- Low and high nodes, and the hubs: a dominating set of the high nodes, chosen greedily. n nodes, threshold s, neighbours G.
-- Assumes nothing.
use Rattle.std.specs.Prelude.{Bool, not, List, [], ◌∷◌, ℕ, zero, suc, leb, length}
use Rattle.model.specs.Basics.{none, up_to, has, all, keep, first_of}
use Rattle.model.specs.Survey.{Graph}

-- rule 4.4: the degree of v is at least s
unfoldable pub is_high : ℕ → Graph → ℕ → Bool
is_high s G v = leb s (length (G v))

-- rule 4.4: the degree of v is less than s
unfoldable pub is_low : ℕ → Graph → ℕ → Bool
is_low s G v = not (is_high s G v)

-- rule 4.5: the closed neighbourhood of v: the nodes that v covers (dominates) as a hub
unfoldable pub closed : Graph → ℕ → List ℕ
closed G v = v ∷ G v

-- how many of the uncovered nodes U the closed neighbourhood of v holds (rule 4.6)
unfoldable pub gain : Graph → List ℕ → ℕ → ℕ
gain G U v = length (keep (λ u. has u (closed G v)) U)

-- rule 4.6: the node, high or low, that holds most of U; the smallest number on a tie
unfoldable pub best : ℕ → Graph → List ℕ → ℕ
best n G U = first_of (λ v. all (λ w. leb (gain G U w) (gain G U v)) (up_to n)) none (up_to n)

-- rule 4.6: while a node of U is uncovered, the best node becomes a hub, and the nodes that it covers leave U. (Each hub covers at least
-- one, so `length U` turns are enough: `greedy_covers` of proofs/Covering.antt)
unfoldable pub greedy : ℕ → Graph → ℕ → List ℕ → List ℕ
greedy n G zero U = []
greedy n G (suc turns) [] = []
greedy n G (suc turns) (u ∷ U) =
    let h = best n G (u ∷ U) in
    h ∷ greedy n G turns (keep (λ x. not (has x (closed G h))) (u ∷ U))

-- rule 4.6: the hubs in the order chosen, a dominating set of the high nodes
unfoldable pub hubs : ℕ → ℕ → Graph → List ℕ
hubs n s G = let U = keep (is_high s G) (up_to n) in greedy n G (length U) U
