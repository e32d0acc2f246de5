-- The best node found in one pass, and the greedy list written hub by hub.
-- Assumes nothing.
use mathlib.Core.Path.{◌≡◌, refl, sym, ap, ap₂, ◌∙◌, subst}
use mathlib.Core.Logic.{⊎_elim}
use mathlib.Core.Bool.{Bool, true, false, not, ◌&&◌}
use mathlib.Core.List.{List, [], ◌∷◌, ◌++◌, append_assoc}
use Prim.Native.Nat.{ℕ, zero, suc, ◌+◌, ◌-◌, ◌*◌, ◌≤◌, ◌<◌}
use native.Mathlib.Nat.{le_refl}
use native.Mathlib.Omega.{arith}
use borrow.Rule.Slice.PartMut.{mid_of, put_mid, mid_len}
use borrow.Author.Tests.{ltb-true}
use Rattle.std.specs.Prelude.{Option, is_some}
use Rattle.std.specs.List.{find}
use lib.Dec.{T, ltb}
use lib.ListN.{length, get_or, set, take, drop, replicate, length-replicate, length-append, length-set, get_or-replicate}
use lib.Seq.{take_at, get_or-set_same, get_or-set_other}
use Rattle.base_lists.specs.Written.{Wrote}
use Rattle.base_lists.proofs.Written.{wrote_one, wrote_then, wrote_over, wrote_part, Left, left_all, left_length, left_more, left_none}
use Rattle.model.specs.Basics.{none, up_to, has, keep, over, first_of}
use Rattle.model.specs.Survey.{Graph}
use Rattle.model.specs.Hubs.{is_high, closed, gain, best, greedy, hubs}
use Rattle.model.specs.Tables.{hub_list}
use Rattle.model.proofs.Covering.{best_is, best_of, best_gains, hubs_length}
use Rattle.model.proofs.Lists.{has_head, of_keep, of_up_to, keep_split, keep_keep, keep_mono, length_pos}
use Rattle.model.proofs.Loops.{below_next}
use Rattle.model.proofs.Tests.{eq_or, and_l, and_r, T_true}
use Rattle.base_nodeset.specs.NodeSet.{Nodes, member, difference}
use Rattle.table_hubs.specs.Bounds.{Bounded}
use Rattle.table_hubs.proofs.Sets.{uncovered, gain_few, some_left, some_by_find, none_by_find, high_kept, covered_kept}

-- ---- the best node

-- of the nodes below v none has more than `most`, each one before `node` has less, and `node` has at least that many
pub record Leading (n : ℕ) (f : ℕ → ℕ) (node most v : ℕ) : Type 0 where
  pub within : v ≤ n
  pub below : node < n
  pub holds : most ≤ f node
  pub greatest : (w : ℕ) → w < v → f w ≤ most
  pub ties : (w : ℕ) → w < node → f w < most

module _ {n : ℕ} {f : ℕ → ℕ} {node most v : ℕ} (l : Leading n f node most v) (h : v < n) where
  pub leading_taken : most < f v → Leading n f v (f v) (v + 1)
  leading_taken p = record {
    within = omega arith;
    below = h;
    holds = le_refl _;
    greatest = below_next (λ (w : ℕ). f w ≤ f v) v (λ w q. omega (arith, l.greatest w q)) (le_refl _);
    ties = λ w q. omega (arith, l.greatest w q);
  }

  pub leading_left : f v ≤ most → Leading n f node most (v + 1)
  leading_left p = record {
    within = omega arith;
    below = l.below;
    holds = l.holds;
    greatest = below_next (λ (w : ℕ). f w ≤ most) v l.greatest p;
    ties = l.ties;
  }

-- a bound that is the gain itself
pub bounded_set : {n : ℕ} {G : Graph} {U bounds : List ℕ} → Bounded n G U bounds → {v g : ℕ} → g ≡ gain G U v → v < length bounds
    → Bounded n G U (set bounds v g)
bounded_set {G = G} {U = U} {bounds = bounds} b {v} {g} e h = record {
  says = λ w l. ⊎_elim
      (λ q.
      let now : get_or (set bounds v g) w 0 ≡ g = ap (λ (x : ℕ). get_or (set bounds v g) x 0) q ∙ get_or-set_same bounds v g 0 h in
      omega (arith, now, ap (gain G U) q))
      (λ d. rw (get_or-set_other bounds v w g 0 d) (b.says w l))
      (eq_or w v);
}

-- at first every bound is 1,024
pub bounded_start : {n : ℕ} {G : Graph} (us : List ℕ) → n ≤ 1024 → Bounded n G (uncovered n us) (replicate 1024 1024)
bounded_start {n} {G} us size = record {
  says = λ v h. omega (arith, gain_few n G us v, get_or-replicate {A = ℕ} 1024 v 1024 0 (omega arith));
}

-- where nodes are taken out of the uncovered ones, no node gains more
pub bounded_fewer : {n : ℕ} {G : Graph} (us us' : List ℕ) {bounds : List ℕ} → Bounded n G (uncovered n us) bounds → (c : Nodes)
    → member us' ≡ difference (member us) c → Bounded n G (uncovered n us') bounds
unfolding gain
bounded_fewer {n} {G} us us' b c e = record {
  says = λ v h.
      let near : Nodes = λ u. has u (closed G v) in
      let both : keep near (uncovered n us') ≡ keep (λ x. not (c x) && near x) (uncovered n us) =
      ap (keep near) (covered_kept n (member us) c e) ∙ keep_keep near (λ x. not (c x)) (uncovered n us) in
      omega (arith, ap length both, keep_mono (λ x. not (c x) && near x) near (uncovered n us) (λ x m t. and_r (not (c x)) (near x) t), b.says v h);
}

-- the best node so far, with the bounds
pub record Seeking (n : ℕ) (G : Graph) (U bounds₀ bounds : List ℕ) (node most v : ℕ) : Type 0 where
  pub room : n ≤ length bounds₀
  pub same : length bounds ≡ length bounds₀
  pub leading : Leading n (gain G U) node most v
  pub bounded : Bounded n G U bounds

module _ {n : ℕ} {G : Graph} {U bounds₀ bounds : List ℕ} {node most v : ℕ} (k : Seeking n G U bounds₀ bounds node most v) (h : v < n) where
  pub seeking_room : v < length bounds
  seeking_room = omega (arith, k.room, k.same)

  -- its gain becomes the bound of v
  seeking_set : {g node' most' : ℕ} → g ≡ gain G U v → Leading n (gain G U) node' most' (v + 1)
      → Seeking n G U bounds₀ (set bounds v g) node' most' (v + 1)
  seeking_set e l = record {
    room = k.room;
    same = length-set bounds v _ ∙ k.same;
    leading = l;
    bounded = bounded_set k.bounded e seeking_room;
  }

  pub seeking_taken : {g : ℕ} → g ≡ gain G U v → most < g → Seeking n G U bounds₀ (set bounds v g) v g (v + 1)
  seeking_taken e l =
      seeking_set e (subst (λ (m : ℕ). Leading n (gain G U) v m (v + 1)) (sym e) (leading_taken k.leading h (omega arith)))

  pub seeking_left : {g : ℕ} → g ≡ gain G U v → g ≤ most → Seeking n G U bounds₀ (set bounds v g) node most (v + 1)
  seeking_left e l = seeking_set e (leading_left k.leading h (omega arith))

  -- its bound is not above the most found
  pub seeking_passed : get_or bounds v 0 ≤ most → Seeking n G U bounds₀ bounds node most (v + 1)
  seeking_passed l = record {
    room = k.room;
    same = k.same;
    leading = leading_left k.leading h (omega (arith, k.bounded.says v h));
    bounded = k.bounded;
  }

pub leading_best : {n node most v : ℕ} (G : Graph) (U : List ℕ) → Leading n (gain G U) node most v → n ≤ v → node ≡ best n G U
leading_best {n} {node} G U l h =
    sym (best_of _ _ _ _ (record {
      below = l.below;
      most = λ w q. omega (arith, l.greatest w (omega arith), l.holds);
      ties = λ w q. omega (arith, l.ties w q, l.holds);
    }))

-- ---- the greedy list

module _ (n : ℕ) (G : Graph) where
  -- what the best node leaves uncovered
  abbrev left : List ℕ → List ℕ
  left U = keep (λ x. not (has x (closed G (best n G U)))) U

  greedy_more : (t : ℕ) (U : List ℕ) → 0 < length U → length U ≤ t → greedy n G t U ≡ best n G U ∷ greedy n G (t - 1) (left U)
  unfolding greedy
  greedy_more zero U p h = absurd (omega arith)
  greedy_more (suc t) [] p h = absurd (omega arith)
  greedy_more (suc t) (u ∷ U) p h =
      let e : t ≡ suc t - 1 = omega arith in
      ap (λ (k : ℕ). best n G (u ∷ U) ∷ greedy n G k (left (u ∷ U))) e

  greedy_none : (t : ℕ) → greedy n G t [] ≡ []
  unfolding greedy
  greedy_none zero = refl
  greedy_none (suc t) = refl

  -- each hub covers one node or more
  fewer : (U : List ℕ) → 0 < length U → ((u : ℕ) → T (has u U) → u < n) → length (left U) < length U
  unfolding gain
  fewer [] p b = absurd (omega arith)
  fewer (u ∷ U) p b =
      omega (arith, keep_split (λ x. has x (closed G (best n G (u ∷ U)))) (u ∷ U), best_gains n G u U (b u (has_head _ _)))

-- the hubs chosen so far are written, and the greedy choice for the uncovered nodes gives the others
pub record Choosing (n s : ℕ) (G : Graph) (list₀ list us : List ℕ) (count : ℕ) : Type 0 where
  pub size : n ≤ 1024
  pub entries : n ≤ length list₀
  pub long : length us ≡ 16
  pub below : (x : ℕ) → T (member us x) → x < n
  pub turns : ℕ
  pub enough : length (uncovered n us) ≤ turns
  pub written : Left list₀ list 0 count (hubs n s G) (greedy n G turns (uncovered n us))

-- the best node, and the place where it is written
pub record ChosenHub (n : ℕ) (list : List ℕ) (count hub : ℕ) : Type 0 where
  pub below : hub < n
  pub fewer : count < n
  pub room : count < length list

pub choosing_none : {n s : ℕ} {G : Graph} {list us : List ℕ} → n ≤ 1024 → n ≤ length list → length us ≡ 16
    → member us ≡ (λ x. ltb x n && is_high s G x) → Choosing n s G list list us 0
unfolding hubs
choosing_none {n} {s} {G} {list} {us} size entries long e =
    let U = keep (is_high s G) (up_to n) in
    let high : uncovered n us ≡ U = high_kept n s G e in
    record {
      size = size;
      entries = entries;
      long = long;
      below = λ x t. ltb-true x n (T_true _ (and_l (ltb x n) (is_high s G x) (subst (λ (p : Nodes). T (p x)) e t)));
      turns = length U;
      enough = omega (arith, ap length high);
      written = rw high (left_all (omega (arith, hubs_length n G s)));
    }

module _ {n s : ℕ} {G : Graph} {list₀ list us : List ℕ} {count : ℕ} (c : Choosing n s G list₀ list us count) where
  abbrev hs : List ℕ
  hs = hubs n s G

  abbrev W : List ℕ
  W = uncovered n us

  -- those written and those left are at most n
  counted : count + length (greedy n G c.turns W) ≤ n
  counted =
      let w = c.written in
      omega (arith, w.wrote.ends, simp length-append at (ap length w.all), hubs_length n G s)

  choosing_long : length list ≡ length list₀
  choosing_long = left_length c.written

  -- the rest of the first n entries can be lent
  pub choosing_part : (count ≤ n) × (n ≤ length list)
  choosing_part = (omega (arith, counted), omega (arith, choosing_long, c.entries))

  -- where there is a smallest member, some node is uncovered
  pub choosing_some : {r : ℕ} → r ≡ first_of (member us) (64 * length us) (up_to (64 * length us)) → r < n → 0 < length (uncovered n us)
  choosing_some {r} e h = length_pos r W (some_left _ _ c.long c.size e h)

  choosing_found : {r : Option ℕ} {b : Bool} → r ≡ find (member us) (up_to (64 * length us)) → b ≡ is_some r → b ≡ true
      → 0 < length (uncovered n us)
  choosing_found e q t = some_by_find n us c.long c.size c.below e q t

  -- then the best node is written
  module _ (some : 0 < length (uncovered n us)) where
    next : greedy n G c.turns W ≡ best n G W ∷ greedy n G (c.turns - 1) (left n G W)
    next = greedy_more n G c.turns W some c.enough

    room : (count < n) × (count < length list)
    room = let l : count < n = omega (arith, counted, ap length next) in (l, omega (arith, choosing_part.1))

    chosen : (us' : List ℕ) → length us' ≡ 16 → member us' ≡ difference (member us) (λ x. has x (closed G (best n G W)))
        → Choosing n s G list₀ (set list count (best n G W)) us' (count + 1)
    unfolding difference
    chosen us' l m =
        let hub = best n G W in
        let k : uncovered n us' ≡ left n G W = covered_kept n (member us) (λ x. has x (closed G hub)) m in
        let less = fewer n G W some (λ u q. of_up_to n u (of_keep (member us) (up_to n) u q).0) in
        let rest = greedy n G (c.turns - 1) (uncovered n us') in
        let others : greedy n G c.turns W ≡ hub ∷ rest = next ∙ ap (λ (U : List ℕ). hub ∷ greedy n G (c.turns - 1) U) (sym k) in
        record {
          size = c.size;
          entries = c.entries;
          long = l;
          below = λ x t. c.below x (and_l (member us x) _ (subst (λ (p : Nodes). T (p x)) m t));
          turns = c.turns - 1;
          enough = omega (arith, ap length k, less, c.enough);
          written = left_more {t = hub ∷ []} (subst (Left list₀ list 0 count hs) others c.written)
              (wrote_one list count hub (omega (arith, room.1)));
        }

  module _ {r : Option ℕ} {b : Bool} (e : r ≡ find (member us) (up_to (64 * length us))) (q : b ≡ is_some r) (t : b ≡ true)
      {hub : ℕ} (h : hub ≡ best n G (uncovered n us)) where
    pub choosing_hub : ChosenHub n list count hub
    choosing_hub =
        let some : 0 < length W = choosing_found e q t in
        record {
          below = omega (arith, h, (best_is n G W (omega (arith, (room some).0))).below);
          fewer = (room some).0;
          room = (room some).1;
        }

    pub choosing_more : {us' : List ℕ} → length us' ≡ 16 → member us' ≡ difference (member us) (λ x. has x (closed G hub))
        → Choosing n s G list₀ (set list count hub) us' (count + 1)
    choosing_more {us'} l m =
        subst (λ (v : ℕ). Choosing n s G list₀ (set list count v) us' (count + 1)) (sym h)
        (chosen (choosing_found e q t) us' l (m ∙ ap (λ (v : ℕ). difference (member us) (λ x. has x (closed G v))) h))

  -- where it is not, the hubs are written, and none behind them
  module _ {r : Option ℕ} {b : Bool} (e : r ≡ find (member us) (up_to (64 * length us))) (q : b ≡ is_some r) (f : b ≡ false) where
    whole : Wrote list₀ list 0 count hs
    whole =
        let no_more : greedy n G c.turns W ≡ [] =
        ap (greedy n G c.turns) (none_by_find n us c.long c.size c.below e q f) ∙ greedy_none n G c.turns in
        left_none (subst (Left list₀ list 0 count hs) no_more c.written)

    pub choosing_all : {t : List ℕ} → t ≡ replicate (length (mid_of count (n - count) list)) none
        → (count ≡ length (hubs n s G)) × (put_mid count (n - count) list t ≡ over (hub_list n s G) list₀)
    unfolding hub_list
    choosing_all {t} filled =
        let k : count ≡ length hs = (wrote_over _ whole).1 in
        let f : length (mid_of count (n - count) list) ≡ n - count = mid_len _ _ _ choosing_part.1 in
        let nones : t ≡ replicate (n - count) none = filled ∙ ap (λ (j : ℕ). replicate j none) f in
        let l : length t ≡ n - count = ap length nones ∙ length-replicate (n - count) _ in
        let both = wrote_then (omega (arith, choosing_part.0, c.entries)) whole (wrote_part list count n t choosing_part.0 l) in (
          k,
          (wrote_over _ both).0
              ∙ ap (λ (b : List ℕ). over (hs ++ b) list₀) (nones ∙ ap (λ (j : ℕ). replicate (n - j) none) k),
        )

-- the hubs stand in front of the hub list
pub hubs_front : (n s : ℕ) (G : Graph) (list list' : List ℕ) (count : ℕ) → count ≡ length (hubs n s G) → list' ≡ over (hub_list n s G) list
    → take count list' ≡ hubs n s G
unfolding over hub_list
hubs_front n s G list list' count c e =
    let hs : List ℕ = hubs n s G in
    let more : List ℕ = replicate (n - length hs) none in
    ap₂ (λ (k : ℕ) (l : List ℕ). take k l) c (e ∙ append_assoc hs more (drop (length (hs ++ more)) list))
    ∙ take_at hs (more ++ drop (length (hs ++ more)) list) _ refl
