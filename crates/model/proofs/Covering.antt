-- The greedy hub list: each hub is the best node, the list covers every high node, and its turns never run out.
-- Assumes nothing.
use mathlib.Core.Path.{◌≡◌, refl, sym, ap, subst}
use mathlib.Core.Logic.{◌⊎◌, inl, inr, ⊎_elim}
use mathlib.Core.Bool.{Bool, not}
use mathlib.Core.List.{List, [], ◌∷◌}
use Prim.Native.Nat.{ℕ, zero, suc, ◌≤◌, ◌<◌, zero-le, suc-le-suc}
use native.Mathlib.Nat.{le_refl, le_trans, not-suc-le-zero, le_step}
use native.Mathlib.Omega.{arith}
use lib.Dec.{T, leb, leb→le, le→leb, not_T, T_not}
use lib.ListN.{length}
use Rattle.model.specs.Basics.{none, up_to, has, all, keep}
use Rattle.model.specs.Survey.{Graph, neighbours_of, ascending, IsGraph, Accepted}
use Rattle.model.specs.Graph.{linked}
use Rattle.model.specs.Hubs.{is_high, closed, gain, best, greedy, hubs}
use Rattle.model.proofs.Tests.{passes, lt_or}
use Rattle.model.proofs.Lists.{has_head, has_tail, of_cons, all_of, of_all, has_keep, of_keep, has_up_to, of_up_to, First}
use Rattle.model.proofs.Lists.{found, nothing, first_below, first_is, keep_split, keep_length, keep_none, length_up_to, length_pos}
use Rattle.model.proofs.Loops.{below_next}
use Rattle.model.proofs.Ascending.{ascending_tail, ascending_above}
use Rattle.model.proofs.Acceptance.{linked_of, linked_sym, few_neighbours}

-- some node below n has the greatest value
greatest : (f : ℕ → ℕ) (n : ℕ) → 0 < n → (v : ℕ) × (v < n) × ((w : ℕ) → w < n → f w ≤ f v)
greatest f zero h = absurd (not-suc-le-zero h)
greatest f (suc zero) h = (0, h, λ w b. rw (only w b) (le_refl _))
  where
    only : (w : ℕ) → w < 1 → w ≡ 0
    only w b = omega arith
greatest f (suc (suc n)) h =
    let i = greatest f (suc n) (suc-le-suc zero-le) in
    ⊎_elim
    (λ l. (
      suc n,
      le_refl (suc (suc n)),
      λ w b.
          below_next (λ x. f x ≤ f (suc n)) (suc n) (λ u c. omega (arith, i.2 u c)) (le_refl (f (suc n))) w (omega arith),
    ))
    (λ l. (i.0, le_step i.1, λ w b. below_next (λ x. f x ≤ f i.0) (suc n) i.2 l w (omega arith)))
    (lt_or (f i.0) (f (suc n)))

abbrev pub distinct : List ℕ → Type 0
distinct [] = Unit {0}
distinct (x ∷ xs) = (T (has x xs) → ⊥) × distinct xs

pub ascending_distinct : (l : List ℕ) → T (ascending l) → distinct l
ascending_distinct [] t = tt
ascending_distinct (x ∷ xs) t = (λ m. omega (arith, ascending_above x xs t x m), ascending_distinct xs (ascending_tail _ _ t))

module _ (n : ℕ) (G : Graph) where
  -- v is the best node: no other holds more of U, and each smaller one holds less
  pub record Best (U : List ℕ) (v : ℕ) : Type 0 where
    pub below : v < n
    pub most : (w : ℕ) → w < n → gain G U w ≤ gain G U v
    pub ties : (w : ℕ) → w < v → gain G U w < gain G U v

  top : List ℕ → ℕ → Bool
  top U v = all (λ w. leb (gain G U w) (gain G U v)) (up_to n)

  top→most : (U : List ℕ) (v : ℕ) → T (top U v) → (w : ℕ) → w < n → gain G U w ≤ gain G U v
  unfolding top
  top→most U v t w b = leb→le _ _ (of_all _ _ t _ (has_up_to _ _ b))

  most→top : (U : List ℕ) (v : ℕ) → ((w : ℕ) → w < n → gain G U w ≤ gain G U v) → T (top U v)
  unfolding top
  most→top U v f = all_of _ _ (λ w b. le→leb _ _ (f w (of_up_to _ _ b)))

  pub best_is : (U : List ℕ) → 0 < n → Best U (best n G U)
  unfolding best top
  best_is U h = at (first_below (top U) none n)
    where
      at : {r : ℕ} → First (top U) none 0 n r → Best U r
      at {r} (found lo hi t least) = record {
        below = omega arith;
        most = top→most _ _ t;
        ties = λ w b. less w b (λ e. least w zero-le b (most→top _ _ (λ x c. le_trans (top→most _ _ t _ c) e)));
      }
        where
          less : (w : ℕ) → w < r → (gain G U r ≤ gain G U w → ⊥) → gain G U w < gain G U r
          less w b g = omega arith
      at (nothing e miss) =
          let g = greatest _ _ h in
          absurd (miss g.0 zero-le (omega arith) (most→top U g.0 g.2))

  pub best_of : (U : List ℕ) (v : ℕ) → Best U v → best n G U ≡ v
  unfolding best top
  best_of U v b =
      first_is _ _ _ _ b.below (most→top _ _ b.most) (λ y h t. clash y (b.ties y h) (top→most _ _ t _ b.below))
    where
      clash : (y : ℕ) → gain G U y < gain G U v → gain G U v ≤ gain G U y → ⊥
      clash y p q = omega arith

  -- the best node holds at least one of a list that is not empty
  pub best_gains : (u : ℕ) (U : List ℕ) → u < n → 0 < gain G (u ∷ U) (best n G (u ∷ U))
  unfolding gain closed
  best_gains u U h =
      let b = best_is _ (le_trans (suc-le-suc zero-le) h) in
      le_trans (length_pos u _ (has_keep _ _ _ (has_head _ _) (has_head _ _))) (b.most u h)

  abbrev pub AllBelow : List ℕ → Type 0
  AllBelow U = (u : ℕ) → T (has u U) → u < n

  best_below : (u : ℕ) (U : List ℕ) → AllBelow (u ∷ U) → best n G (u ∷ U) < n
  best_below u U b = (best_is _ (le_trans (suc-le-suc zero-le) (b u (has_head _ _)))).below

  -- what the best node of U leaves of it
  abbrev rest : List ℕ → List ℕ
  rest U = keep (λ v. not (has v (closed G (best n G U)))) U

  of_rest : (U : List ℕ) (v : ℕ) → T (has v (rest U)) → T (has v U) × (T (has v (closed G (best n G U))) → ⊥)
  of_rest U v m =
      let i = of_keep _ _ _ m in
      (i.0, T_not (has v (closed G (best n G U))) i.1)

  pub greedy_covers : (turns : ℕ) (U : List ℕ) → length U ≤ turns → AllBelow U
      → (u : ℕ) → T (has u U) → (h : ℕ) × (h < n) × T (has h (greedy n G turns U)) × T (has u (closed G h))
  unfolding greedy has gain
  greedy_covers zero [] l b u m = absurd m
  greedy_covers zero (x ∷ U) l b u m = absurd (not-suc-le-zero l)
  greedy_covers (suc turns) [] l b u m = absurd m
  greedy_covers (suc turns) (x ∷ U) l b u m = ⊎_elim
      (λ c. (k, best_below _ _ b, has_head k (greedy n G turns (rest (x ∷ U))), c))
      (λ c.
      let m' = has_keep _ _ _ m (not_T (has u (closed G k)) c) in
      let r = greedy_covers turns (rest (x ∷ U)) shorter (λ v s. b v (of_rest _ _ s).0) _ m' in
      (r.0, r.1, has_tail r.0 _ (greedy n G turns (rest (x ∷ U))) r.2, r.3))
      (passes (has u (closed G k)))
    where
      k : ℕ
      k = best n G (x ∷ U)

      shorter : length (rest (x ∷ U)) ≤ turns
      shorter = omega (arith, keep_split (λ v. has v (closed G k)) (x ∷ U), best_gains x U (b x (has_head x U)))

  pub greedy_length : (turns : ℕ) (U : List ℕ) → length (greedy n G turns U) ≤ turns
  unfolding greedy
  greedy_length zero U = le_refl _
  greedy_length (suc turns) [] = zero-le
  greedy_length (suc turns) (x ∷ U) = suc-le-suc (greedy_length turns _)

  pub greedy_below : (turns : ℕ) (U : List ℕ) → AllBelow U → AllBelow (greedy n G turns U)
  unfolding greedy has
  greedy_below zero U b h m = absurd m
  greedy_below (suc turns) [] b h m = absurd m
  greedy_below (suc turns) (x ∷ U) b h m = ⊎_elim
      (λ e. rw e (best_below _ _ b))
      (greedy_below turns (rest (x ∷ U)) (λ v s. b v (of_rest _ _ s).0) _)
      (of_cons _ _ (greedy n G turns (rest (x ∷ U))) m)

  high_below : (s : ℕ) → AllBelow (keep (is_high s G) (up_to n))
  high_below s u m = of_up_to _ _ (of_keep _ _ _ m).0

  pub hubs_below : (s : ℕ) → AllBelow (hubs n s G)
  unfolding hubs
  hubs_below s = greedy_below _ _ (high_below s)

  -- every high node is a hub or a hub's neighbour
  pub hubs_cover : (s v : ℕ) → v < n → T (is_high s G v) → (h : ℕ) × (h < n) × T (has h (hubs n s G)) × T (has v (closed G h))
  unfolding hubs
  hubs_cover s v b t = greedy_covers _ _ (le_refl _) (high_below s) v (has_keep _ _ _ (has_up_to _ _ b) t)

  -- there are at most n hubs
  pub hubs_length : (s : ℕ) → length (hubs n s G) ≤ n
  unfolding hubs
  hubs_length s =
      let U = keep (is_high s G) (up_to n) in
      omega (arith, greedy_length (length U) U, keep_length (is_high s G) (up_to n), length_up_to n)

  -- where all nodes are low there is none
  pub no_hubs : (s : ℕ) → ((v : ℕ) → v < n → length (G v) < s) → hubs n s G ≡ []
  unfolding hubs greedy is_high
  no_hubs s low =
      rw (keep_none (is_high s G) (up_to n) (λ v m t. let l = low v (of_up_to n v m) in omega (arith, leb→le s (length (G v)) t))) refl

  -- ---- no hub is chosen twice

  -- the best node of a list that is not empty covers a node of it
  best_covers : (u : ℕ) (U : List ℕ) → u < n → (x : ℕ) × T (has x (u ∷ U)) × T (has x (closed G (best n G (u ∷ U))))
  unfolding gain
  best_covers u U h = at (keep p (u ∷ U)) refl
    where
      p : ℕ → Bool
      p x = has x (closed G (best n G (u ∷ U)))

      at : (l : List ℕ) → keep p (u ∷ U) ≡ l → (x : ℕ) × T (has x (u ∷ U)) × T (p x)
      at [] e = absurd (omega (arith, best_gains u U h, ap length e))
      at (x ∷ l) e = let i = of_keep _ _ _ (subst (λ (k : List ℕ). T (has x k)) (sym e) (has_head _ _)) in (x, i.0, i.1)

  -- a node that covers none of U is not chosen for U
  greedy_apart : (turns : ℕ) (U : List ℕ) → AllBelow U → (h : ℕ) → ((u : ℕ) → T (has u U) → T (has u (closed G h)) → ⊥)
      → T (has h (greedy n G turns U)) → ⊥
  unfolding greedy has
  greedy_apart zero U b h f m = m
  greedy_apart (suc turns) [] b h f m = m
  greedy_apart (suc turns) (x ∷ U) b h f m = ⊎_elim
      (λ e. let c = best_covers _ _ (b x (has_head x U)) in f c.0 c.1 (subst (λ (z : ℕ). T (has c.0 (closed G z))) (sym e) c.2))
      (greedy_apart turns (rest (x ∷ U)) (λ v s. b v (of_rest (x ∷ U) v s).0) h (λ u s. f u (of_rest _ _ s).0))
      (of_cons _ _ (greedy n G turns (rest (x ∷ U))) m)

  greedy_distinct : (turns : ℕ) (U : List ℕ) → AllBelow U → distinct (greedy n G turns U)
  unfolding greedy
  greedy_distinct zero U b = tt
  greedy_distinct (suc turns) [] b = tt
  greedy_distinct (suc turns) (x ∷ U) b =
      let under : AllBelow (rest (x ∷ U)) = λ v s. b v (of_rest _ _ s).0 in (
        greedy_apart turns _ under _ (λ u s. (of_rest _ _ s).1),
        greedy_distinct turns (rest (x ∷ U)) under,
      )

  pub hubs_distinct : (s : ℕ) → distinct (hubs n s G)
  unfolding hubs
  hubs_distinct s = greedy_distinct _ _ (high_below s)

-- in a graph, every high node is a hub or linked to one
pub high_linked : (n s : ℕ) (G : Graph) → IsGraph n G → (v : ℕ) → v < n → T (is_high s G v)
    → T (has v (hubs n s G)) ⊎ ((h : ℕ) × T (has h (hubs n s G)) × T (linked n G v h))
unfolding closed
high_linked n s G g v b t =
    let c = hubs_cover _ _ _ _ b t in
    let h = c.0 in
    ⊎_elim
    (λ e. inl (rw e c.2))
    (λ m. inr (h, c.2, linked_sym _ _ _ _ (linked_of _ _ g _ _ c.1 m)))
    (of_cons _ _ _ c.3)

-- with a threshold of n or more all nodes of a survey are low
pub none_high : (n s : ℕ) (starts neighbours : List ℕ) → Accepted n starts neighbours → n ≤ s → hubs n s (neighbours_of starts neighbours) ≡ []
none_high n s starts neighbours acc h = no_hubs n _ s (λ v b. omega (arith, few_neighbours n starts neighbours acc v b))
