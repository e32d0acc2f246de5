-- Chains (walks in a graph), and the fewest links between two nodes (their distance).
-- Assumes nothing.
use Rattle.std.specs.Prelude.{Bool, ◌&&◌, ◌||◌, List, [], ◌∷◌, ℕ, zero, suc, ◌≤◌, T, ltb}
use Rattle.model.specs.Basics.{none, up_to, has, any, keep, first_of}
use Rattle.model.specs.Survey.{Graph}

-- which nodes are linked: a and b are, where E a b (rule 8.1)
abbrev pub Edges : Type 0
Edges = ℕ → ℕ → Bool

-- rule 8.1: an edge. Both ends are nodes, 0 to n - 1, and links are undirected (rule 1.3)
unfoldable pub linked : ℕ → Graph → Edges
linked n G a b = ltb a n && ltb b n && has b (G a) && has a (G b)

-- the links whose two ends pass a test (an induced subgraph), for rule 5.3
abbrev pub between : (ℕ → Bool) → Edges → Edges
between p E a b = p a && p b && E a b

-- rule 8.2: a chain, which is a walk in the graph. Chain E k a b has k links and joins a and b. (The ends of a link are below n. A chain of
-- no links may stand at any number, but every promise of section 9 is about nodes below n.)
pub data Chain (E : Edges) : ℕ → ℕ → ℕ → Type 0 where
  here : {a : ℕ} → Chain E 0 a a
  link : {k a b c : ℕ} → T (E a b) → Chain E k b c → Chain E (suc k) a c

-- no chain joins a and b: they are not connected (rule 8.2)
abbrev pub Unjoined : Edges → ℕ → ℕ → Type 0
Unjoined E a b = (k : ℕ) → Chain E k a b → ⊥

-- rule 8.3: d is the least number of links that join a and b, their distance
abbrev pub Fewest : Edges → ℕ → ℕ → ℕ → Type 0
Fewest E a b d = Chain E d a b × ((k : ℕ) → Chain E k a b → d ≤ k)

-- rule 8.4: at most two links apart
abbrev pub WithinTwo : Edges → ℕ → ℕ → Type 0
WithinTwo E a b = (d : ℕ) × (d ≤ 2) × Fewest E a b d

-- rule 8.2: a chain as the list of its nodes: a is the first, b the last, and each is linked to the next. It has one link fewer than nodes
-- (`walked_chain` and `chain_walked` of proofs/Chains.antt)
pub data Walked (E : Edges) : List ℕ → ℕ → ℕ → Type 0 where
  stop : {a : ℕ} → Walked E (a ∷ []) a a
  go : {a b c : ℕ} {l : List ℕ} → T (E a b) → Walked E l b c → Walked E (a ∷ l) a c

-- ---- the same as a function (`fewest_cases` of proofs/Chains.antt)

-- the nodes that chains of at most k links from a reach, in a graph of n nodes (rule 8.2)
unfoldable pub reach : Edges → ℕ → ℕ → ℕ → List ℕ
reach E n a zero = a ∷ []
reach E n a (suc k) = let r = reach E n a k in keep (λ v. has v r || any (λ u. E u v) r) (up_to n)

-- rule 8.3: the least k with which b is reached; none (rule 5.1) where no chain reaches it
unfoldable pub fewest : Edges → ℕ → ℕ → ℕ → ℕ
fewest E n a b = first_of (λ k. has b (reach E n a k)) none (up_to n)
