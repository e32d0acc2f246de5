-- What is known once the rows below v are passed: these rows are right, and for each node x a list holds the nodes below v that have x in
-- their rows; in a survey these are x's own neighbours below v.
-- Assumes nothing.
use mathlib.Core.Path.{◌≡◌, sym, ◌∙◌}
use mathlib.Core.Logic.{⊎_elim}
use mathlib.Core.Bool.{Bool}
use mathlib.Core.List.{List, [], ◌∷◌, ◌++◌}
use Prim.Native.Nat.{ℕ, ◌+◌, ◌≤◌, ◌<◌}
use native.Mathlib.Omega.{arith}
use lib.Dec.{T, ltb, ltb→lt, lt→ltb}
use Rattle.model.specs.Basics.{has, keep}
use Rattle.model.specs.Survey.{Graph, ascending, IsGraph}
use Rattle.model.proofs.Lists.{has_head, has_tail, none_in, of_cons, of_single, has_append, has_later, of_append, has_keep, of_keep, keep_same}
use Rattle.model.proofs.Loops.{below_next}
use Rattle.model.proofs.Ascending.{ascending_above, ascending_cons, ascending_tail, ascending_keep, keep_of_ascending}

-- ---- ascending lists

pub ascending_join : (k l : List ℕ) → T (ascending k) → T (ascending l) → ((x y : ℕ) → T (has x k) → T (has y l) → x < y)
    → T (ascending (k ++ l))
ascending_join [] l a b f = b
ascending_join (z ∷ k) l a b f =
    ascending_cons _ _
    (λ y m. ⊎_elim (ascending_above z k a y) (f z y (has_head _ _)) (of_append _ _ _ m))
    (ascending_join k l (ascending_tail z k a) b (λ x y h m. f x y (has_tail _ _ _ h) m))

pub ascending_later : (k l : List ℕ) → T (ascending (k ++ l)) → T (ascending l)
ascending_later [] l a = a
ascending_later (z ∷ k) l a = ascending_later k l (ascending_tail z _ a)

-- each of the first is less than each of the others
pub ascending_between : (k l : List ℕ) → T (ascending (k ++ l)) → (x y : ℕ) → T (has x k) → T (has y l) → x < y
ascending_between [] l a x y h m = absurd (none_in x h)
ascending_between (z ∷ k) l a x y h m = ⊎_elim
    (λ e. rw e (ascending_above _ _ a _ (has_later y k l m)))
    (λ r. ascending_between k l (ascending_tail z _ a) x y r m)
    (of_cons x z k h)

-- two ascending lists with the same members
same_members : (n : ℕ) (k l : List ℕ) → T (ascending k) → T (ascending l) → ((x : ℕ) → T (has x k) → x < n)
    → ((x : ℕ) → T (has x k) → T (has x l)) → ((x : ℕ) → T (has x l) → T (has x k)) → k ≡ l
same_members n k l a b h f g =
    sym (ascending_keep k n a h)
    ∙ keep_same _ _ _ (λ x m. f x) (λ x m. g x)
    ∙ ascending_keep _ _ b (λ x m. h x (g x m))

-- ---- the nodes below v that have x in their rows

-- l holds them in ascending order
pub record Met (G : Graph) (v x : ℕ) (l : List ℕ) : Type 0 where
  pub order : T (ascending l)
  pub from : (w : ℕ) → T (has w l) → (w < v) × T (has x (G w))
  pub into : (w : ℕ) → w < v → T (has x (G w)) → T (has w l)

pub met_none : {G : Graph} {x : ℕ} → Met G 0 x []
unfolding ascending
met_none = record { order = tt; from = λ w k. absurd (none_in w k); into = λ w h k. absurd (omega arith) }

module _ {G : Graph} {v x : ℕ} {l : List ℕ} (m : Met G v x l) where
  -- row v holds x: v comes next
  pub met_more : T (has x (G v)) → Met G (v + 1) x (l ++ v ∷ [])
  unfolding ascending
  met_more h = record {
    order = ascending_join _ _ m.order _ (λ w y k j. let i = m.from w k in let e = of_single y v j in omega arith);
    from = λ w k. ⊎_elim
        (λ j. let i = m.from w j in (omega arith, i.1))
        (λ j. let e = of_single w v j in (omega arith, rw e h))
        (of_append _ _ _ k);
    into = below_next _ _
        (λ w g k. has_append _ _ _ (m.into w g k))
        (λ k. has_later v l _ (has_head v []));
  }

  -- it does not: the nodes are the same
  pub met_same : (T (has x (G v)) → ⊥) → Met G (v + 1) x l
  met_same d = record {
    order = m.order;
    from = λ w k. let i = m.from w k in (omega arith, i.1);
    into = below_next _ _ m.into (λ k. absurd (d k));
  }

  -- in an undirected graph they are x's own neighbours below v
  pub met_are : {n : ℕ} → IsGraph n G → v ≤ n → x < n → T (ascending (G x)) → l ≡ keep (λ w. ltb w v) (G x)
  met_are {n} g vn xn a =
      let below : ℕ → Bool = λ w. ltb w v in
      same_members n l (keep below (G x)) m.order (keep_of_ascending below (G x) a)
      (λ w k. let i = m.from w k in omega arith)
      (λ w k. let i = m.from w k in has_keep _ _ _ (g.symmetric w x (omega arith) i.1) (lt→ltb w v i.0))
      (λ w k. let i = of_keep below _ w k in m.into w (ltb→lt w v i.1) (g.symmetric x w xn i.0))

-- ---- the rows below v

-- they ascend and hold nodes below n other than their own, and of nodes w and x below v, w is in row x where x is in row w
pub record RowsRight (n : ℕ) (G : Graph) (v : ℕ) : Type 0 where
  pub sorted : (w : ℕ) → w < v → T (ascending (G w))
  pub below : (w : ℕ) → w < v → (x : ℕ) → T (has x (G w)) → (x < n) × (x ≡ w → ⊥)
  pub back : (w : ℕ) → w < v → (x : ℕ) → x < v → T (has x (G w)) → T (has w (G x))

pub right_none : {n : ℕ} {G : Graph} → RowsRight n G 0
right_none = record {
  sorted = λ w h. absurd (omega arith);
  below = λ w h x m. absurd (omega arith);
  back = λ w h x l m. absurd (omega arith);
}

-- row v is right as well: v is in the rows of its nodes up to v, and the nodes below v with v in their rows are in row v
pub right_next : {n : ℕ} {G : Graph} {v : ℕ} → RowsRight n G v → T (ascending (G v))
    → ((x : ℕ) → T (has x (G v)) → (x < n) × (x ≡ v → ⊥))
    → ((x : ℕ) → x < v + 1 → T (has x (G v)) → T (has v (G x))) → ((w : ℕ) → w < v → T (has v (G w)) → T (has w (G v)))
    → RowsRight n G (v + 1)
right_next {n} {G} {v} r sorted below back into = record {
  sorted = below_next _ _ r.sorted sorted;
  below = below_next _ _ r.below below;
  back = below_next _ _
      (λ w h. below_next _ _ (r.back w h) (into _ h))
      back;
}
