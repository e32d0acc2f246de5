-- With the tables that were built, neither asking nor walking is refused, whether or not the hub list is lent.
-- Assumes nothing. Holds for every threshold s.
use mathlib.Core.Path.{◌≡◌, refl, sym, ap₂, ◌∙◌}
use mathlib.Core.Logic.{◌⊎◌, ⊎_elim}
use mathlib.Core.Bool.{Bool, true, not, ◌&&◌}
use mathlib.Core.List.{List, [], ◌∷◌}
use mathlib.Core.Option.{Option, none as missing, some, IsSome}
use Prim.Native.Nat.{ℕ, suc, ◌≤◌, ◌<◌, zero-le}
use native.Mathlib.Nat.{le_of_suc-le-suc}
use native.Mathlib.Omega.{arith}
use borrow.Author.Tests.{eqb-true, ne_eqb}
use lib.Dec.{T, eqb, eqb→eq, not_T}
use lib.ListN.{length, take}
use Rattle.model.specs.declared.Route.{Route}
use Rattle.model.specs.declared.Route.TheVariants.{Itself, Low, Through, NoRoute, Link}
use Rattle.model.specs.declared.Answer.{Answer}
use Rattle.model.specs.Answers.{Outcome, answered}
use Rattle.model.specs.Basics.{none, has, up_to, first_of}
use Rattle.model.specs.Graph.{Edges, Chain, link, Fewest, linked}
use Rattle.model.specs.Survey.{Graph, IsGraph}
use Rattle.model.specs.Hubs.{is_low, hubs}
use Rattle.model.specs.Tables.{entry_at, sum, via, full_table, low_table, low_links, report_table, report_entry, AreBuilt, hub_list}
use Rattle.model.specs.Pair.{with_route, taken, listed, attaining, choose, pair_by, pair}
use Rattle.model.specs.Walk.{by_low, to_hub, by_link, walk_nodes}
use Rattle.model.specs.Walking.{refuse_walk, fit, walk_of}
use Rattle.model.proofs.Tests.{and_r, and_i, eq_T, T_true, same_test, eq_or, picked}
use Rattle.model.proofs.Lists.{has_append, of_up_to, first_below, First, found, nothing, first_same}
use Rattle.model.proofs.Acceptance.{linked_has, linked_sym, linked_ends}
use Rattle.model.proofs.Chains.{snoc, split_last, chain_zero, inside}
use Rattle.model.proofs.Covering.{hubs_below}
use Rattle.model.proofs.Entries.{entry_front}
use Rattle.model.proofs.TableLaws.{full_is, full_joined, low_is, low_joined, low_ends, both_low, low_widen, fewest_unique}
use Rattle.model.proofs.Allowance.{routes, report_entry_lem, linked_report, report_one, least_cases}
use Rattle.model.proofs.Walks.{Chosen, to_itself, to_none, to_link, to_low, to_hub_lem, bad_itself, bad_hub, chosen}
use Rattle.model.proofs.Walks.{Sound, steps_given, join_given, attains, via_sum, fit_long, route_sound}

-- nodes that fit are given out with the answer as it is
fits : {w : ℕ} (x : Answer) (k : List ℕ) → length k ≤ w → (fit w x (some k)).answer ≡ answered x
fits x k l = rw (fit_long _ _ _ l)

fits_sound : (E : Edges) (a b : ℕ) {w : ℕ} (x : Answer) (o : Option (List ℕ)) → Sound E x.report a b o → IsSome o → x.report < w
    → (fit w x o).answer ≡ answered x
fits_sound E a b x missing s m l = absurd m
fits_sound E a b x (some k) s m l = fits _ _ (rw s.1 l)

-- what is equal to a number below none is not none
below_none : {x k : ℕ} → x ≡ k → k < none → x ≡ none → ⊥
below_none e l q = omega arith

module _ {n s : ℕ} {G : Graph} (g : IsGraph n G) (size : n ≤ 1024) {full low report : List ℕ} (built : AreBuilt n s G full low report) where
  -- the laws of the tables, for lists that begin with them
  full_at : {h b : ℕ} → h < n → b < n → entry_at n full h b ≡ entry_at n (full_table n s G) h b
  full_at = entry_front _ _ _ built.full_front _ _

  low_at : {a b : ℕ} → a < n → b < n → entry_at n low a b ≡ entry_at n (low_table n s G) a b
  low_at = entry_front _ _ _ built.low_front _ _

  pub report_at : {a b : ℕ} → a < n → b < n → entry_at n report a b ≡ entry_at n (report_table n s G) a b
  report_at = entry_front _ _ _ built.report_front _ _

  full_is' : {h b : ℕ} → h < n → b < n → (entry_at n full h b ≡ none → ⊥)
      → T (has h (hubs n s G)) × Fewest (linked n G) h b (entry_at n full h b)
  full_is' hh hb = rw (full_at hh hb) (full_is _ g hh hb)

  full_joined' : {h b k : ℕ} → h < n → b < n → T (has h (hubs n s G)) → Chain (linked n G) k h b
      → (entry_at n full h b < n) × Fewest (linked n G) h b (entry_at n full h b)
  full_joined' hh hb m c = rw (full_at hh hb) (full_joined _ g hh hb m c)

  low_is' : {a b : ℕ} → a < n → b < n → (entry_at n low a b ≡ none → ⊥)
      → T (is_low s G a) × T (is_low s G b) × Fewest (low_links n s G) a b (entry_at n low a b)
  low_is' ha hb = rw (low_at ha hb) (low_is _ g ha hb)

  low_joined' : {a b k : ℕ} → a < n → b < n → T (is_low s G a) → T (is_low s G b) → Chain (low_links n s G) k a b
      → (entry_at n low a b < n) × Fewest (low_links n s G) a b (entry_at n low a b)
  low_joined' ha hb la lb c = rw (low_at ha hb) (low_joined _ g ha hb la lb c)

  report_entry' : {a b : ℕ} → a < n → b < n
      → entry_at n report a b ≡ report_entry n G (full_table n s G) (low_table n s G) (hubs n s G) a b
  report_entry' ha hb = report_at ha hb ∙ report_entry_lem s g ha hb

  via_at : {a b h : ℕ} → a < n → b < n → h < n → via n full a b h ≡ via n (full_table n s G) a b h
  unfolding via
  via_at ha hb hh = ap₂ sum (full_at hh ha) (full_at hh hb)

  -- from a node, a next one on the way to a hub
  full_next : {h : ℕ} → h < n → (v d : ℕ) → v < n → suc d < none → entry_at n full h v ≡ suc d
      → (u : ℕ) × T (has u (G v)) × T true × (entry_at n full h u ≡ d)
  full_next {h} hh v d hv z e =
      let i = full_is' hh hv (below_none e z) in
      let f = rw e at i.1 in
      let c = split_last f.0 in
      let hu = inside (linked_ends _ _) hh c.1 in
      let j = full_joined' hh hu i.0 c.1 in (
        c.0,
        linked_has _ _ _ _ (linked_sym _ _ _ _ c.2),
        tt,
        fewest_unique j.1 (c.1, λ k w. le_of_suc-le-suc (f.1 (suc k) (snoc w c.2))),
      )

  full_end : {h : ℕ} → h < n → (v : ℕ) → v < n → entry_at n full h v ≡ 0 → v ≡ h
  full_end {h} hh v hv e =
      sym (chain_zero (rw e at (full_is' hh hv (below_none e (omega arith))).1.0))

  -- and one on the way to b among the low nodes
  low_next : {b : ℕ} → b < n → (v d : ℕ) → v < n → suc d < none → entry_at n low v b ≡ suc d
      → (u : ℕ) × T (has u (G v)) × T (is_low s G u) × (entry_at n low u b ≡ d)
  low_next {b} hb v d hv z e =
      let i = low_is' hv hb (below_none e z) in
      at i.1 (rw e at i.2)
    where
      at : T (is_low s G b) → Fewest (low_links n s G) v b (suc d)
          → (u : ℕ) × T (has u (G v)) × T (is_low s G u) × (entry_at n low u b ≡ d)
      at lb (link {b = u} t r, f) =
          let lu = (both_low _ _ _ g _ _ t).1 in
          let j = low_joined' (low_ends _ _ _ g _ _ hv t) hb lu lb r in
          (u, linked_has _ G _ _ (low_widen _ _ _ g _ _ t), lu, fewest_unique j.1 (r, λ k w. le_of_suc-le-suc (f (suc k) (link t w))))

  low_end : {b : ℕ} → b < n → (v : ℕ) → v < n → entry_at n low v b ≡ 0 → v ≡ b
  low_end {b} hb v hv e =
      chain_zero (rw e at (low_is' hv hb (below_none e (omega arith))).2.0)

  module _ {a b : ℕ} (ha : a < n) (hb : b < n) where
    abbrev pub r : ℕ
    r = entry_at n report a b

    -- every hub that attains the report is among those that count
    abbrev pub Counts : (ℕ → Bool) → Type 0
    Counts isHub = (h : ℕ) → h < n → (r ≡ none → ⊥) → via n full a b h ≡ r → T (isHub h)

    -- the report of a node to itself is 0
    zero_report : a ≡ b → r ≡ 0
    zero_report e = rw (T_true (eqb a b) (eq_T a b e)) at (report_entry' ha hb)

    -- the report is 1 for linked nodes, where they differ, and for no others
    linked_one : (a ≡ b → ⊥) → T (linked n G a b) → r ≡ 1
    linked_one d t = report_at ha hb ∙ linked_report _ g ha hb d t

    one_linked : r ≡ 1 → T (linked n G a b)
    one_linked e = report_one s g ha hb (sym (report_at ha hb) ∙ e)

    -- so linked nodes that differ are answered by the link, whatever hubs count
    pub pair_linked : (isHub : ℕ → Bool) → (a ≡ b → ⊥) → T (linked n G a b) → pair_by isHub n full low report a b ≡ answered (with_route 1 Link)
    unfolding pair_by choose
    pair_linked isHub d t = rw (ne_eqb a b d, linked_one d t) refl

    -- a node that attains the report is a hub, if the report is not none
    pub attaining_hub : (h : ℕ) → h < n → (r ≡ none → ⊥) → via n full a b h ≡ r → T (has h (hubs n s G))
    attaining_hub h hh f e = (full_is' hh ha (via_sum n full a b h e f).0).0

    module _ (isHub : ℕ → Bool) (right : Counts isHub) where
      abbrev pub hub : ℕ
      hub = attaining isHub n full a b r

      -- a report that neither a link nor Low attains is attained by a hub
      hub_found : (a ≡ b → ⊥) → (r ≡ none → ⊥) → (r ≡ 1 → ⊥) → (entry_at n low a b ≡ r → ⊥) → hub ≡ none → ⊥
      unfolding attaining routes
      hub_found x f o y z =
          picked P (eqb a b) _ _ (λ e _. x (eqb-true _ _ e)) (λ _. picked P (linked n G a b) _ _ (λ _. o) (λ _. some_hub))
          (report_entry' ha hb)
        where
          P : ℕ → Type 0
          P k = r ≡ k → ⊥

          p : ℕ → Bool
          p h = isHub h && eqb (via n full a b h) r

          some_hub : r ≡ routes s g a b → ⊥
          some_hub e = ⊎_elim (λ q. y (low_at ha hb ∙ sym (e ∙ q))) (λ c.
              let h = c.0 in
              let l = hubs_below _ _ _ _ c.1 in
              let v : via n full a b h ≡ r = via_at ha hb l ∙ sym (e ∙ c.2) in
              hit h l (and_i (isHub h) _ (right h l f v) (eq_T (via n full a b h) _ v)) (first_below p none n) z)
              (least_cases (via n (full_table n s G) a b) (entry_at n (low_table n s G) a b) (hubs n s G))
            where
              hit : (h : ℕ) → h < n → T (p h) → {k : ℕ} → First p none 0 n k → k ≡ none → ⊥
              hit h l t (found lo hi s least) q = omega arith
              hit h l t (nothing q miss) p = miss h zero-le (omega arith) t

      -- asking: the report, with some route
      pub pair_built : (t : Route) × (pair_by isHub n full low report a b ≡ answered (with_route r t))
      unfolding pair_by
      pair_built = at (chosen a b r (entry_at n low a b) hub)
        where
          at : {q : Outcome Answer} → Chosen a b r (entry_at n low a b) hub q → (t : Route) × (q ≡ answered (with_route r t))
          at (to_itself e z) = (Itself, rw (sym z))
          at (to_none x e) = (NoRoute, rw (sym e))
          at (to_link x e) = (Link, rw (sym e))
          at (to_low x f o e) = (Low, refl)
          at (to_hub_lem x f o y z) = (Through hub, refl)
          at (bad_itself e f) = absurd (f (zero_report e))
          at (bad_hub x f o y z) = absurd (hub_found x f o y z)

      -- walking: the same answer, if the walk list has report + 1 entries, or there is no route
      pub walk_built : (w : ℕ) → (r ≡ none) ⊎ (r < w)
          → (walk_of w n s G full low a b (pair_by isHub n full low report a b)).answer ≡ pair_by isHub n full low report a b
      unfolding pair_by walk_of walk_nodes by_low to_hub by_link refuse_walk
      walk_built w room = at (chosen a b r (entry_at n low a b) hub)
        where
          roomy : (r ≡ none → ⊥) → r < w
          roomy f = ⊎_elim (λ e. absurd (f e)) (λ l. l) room

          link_given : T (linked n G a b) → IsSome (by_link n G a b)
          link_given t = rw (T_true (linked n G a b) t) tt

          low_given : (entry_at n low a b ≡ none → ⊥) → IsSome (by_low n s G low a b)
          low_given f =
              let i = low_is' ha hb f in
              let j = low_joined' ha hb i.0 i.1 i.2.0 in
              steps_given n G g (is_low s G) (λ x. entry_at n low x b) b (omega arith) (low_next hb) (low_end hb) _ a ha (omega arith) refl

          hub_given : {h v : ℕ} → h < n → v < n → (entry_at n full h v ≡ none → ⊥) → IsSome (to_hub n G full h v)
          hub_given {h} {v} hh hv f =
              let i = full_is' hh hv f in
              let j = full_joined' hh hv i.0 i.1.0 in
              steps_given n G g (λ x. true) (λ x. entry_at n full h x) h (omega arith) (full_next hh) (full_end hh) _ v hv (omega arith) refl

          route_fits : (x : Answer) → Chosen a b r (entry_at n low a b) hub (answered x) → (x.report ≡ none → ⊥)
              → IsSome (walk_nodes n s G full low a b x.route) → x.report < w
              → (fit w x (walk_nodes n s G full low a b x.route)).answer ≡ answered x
          route_fits x c f = fits_sound (linked n G) a b x _ (route_sound s g full low ha hb isHub report x c f)

          at : {q : Outcome Answer} → Chosen a b r (entry_at n low a b) hub q → (walk_of w n s G full low a b q).answer ≡ q
          at (to_itself e z) = fits _ (a ∷ []) (rw z at (roomy (below_none z (omega arith))))
          at (to_none x e) = fits _ [] zero-le
          at (to_link x e) =
              route_fits _ (to_link x e) (λ q. omega arith) (link_given (one_linked e)) (rw e at (roomy (below_none e (omega arith))))
          at (to_low x f o e) = route_fits _ (to_low x f o e) f (low_given (λ q. f (sym e ∙ q))) (roomy f)
          at (to_hub_lem x f o y z) =
              let i = attains isHub n full a b r z in
              let v = via_sum n full a b hub i.2 f in
              route_fits _ (to_hub_lem x f o y z) f
              (join_given (to_hub n G full hub a) (to_hub n G full hub b) (hub_given i.0 ha v.0) (hub_given i.0 hb v.1)) (roomy f)
          at (bad_itself e f) = absurd (f (zero_report e))
          at (bad_hub x f o y z) = absurd (hub_found x f o y z)

    -- ---- with and without a hub list

    pub taken_right : Counts (taken n full a b)
    unfolding taken
    taken_right h hh f e =
        let v = via_sum n full a b h e f in
        and_i (not (eqb (entry_at n full h a) none)) _
        (not_T (eqb (entry_at n full h a) none) (λ t. v.0 (eqb→eq _ _ t)))
        (not_T (eqb (entry_at n full h b) none) (λ t. v.1 (eqb→eq _ _ t)))

    pub listed_right : (list : List ℕ) → take n list ≡ hub_list n s G → Counts (listed n list)
    unfolding listed hub_list
    listed_right list q h hh f e =
        rw q (has_append _ _ _ (attaining_hub _ hh f e))

    -- the hubs that count make no difference, as long as each hub that attains the report is among them
    counted_same : (p q : ℕ → Bool) → Counts p → Counts q → pair_by p n full low report a b ≡ pair_by q n full low report a b
    unfolding pair_by attaining choose
    counted_same p q fp fq = ⊎_elim
        (λ e. rw (T_true (eqb r none) (eq_T r none e)) refl)
        (λ f. rw (one p fp f ∙ sym (one q fq f)))
        (eq_or r none)
      where
        one : (t : ℕ → Bool) → Counts t → (r ≡ none → ⊥)
            → first_of (λ h. t h && eqb (via n full a b h) r) none (up_to n) ≡ first_of (λ h. eqb (via n full a b h) r) none (up_to n)
        one t ft f =
            first_same _ _ _ _ (λ h m.
            same_test _ _
            (λ u. and_r (t h) (eqb (via n full a b h) r) u)
            (λ u. and_i (t h) _ (ft h (of_up_to _ _ m) f (eqb→eq _ _ u)) u))

    -- it makes no difference whether a hub list is lent
    pub listed_same : (list : List ℕ) → take n list ≡ hub_list n s G
        → pair_by (listed n list) n full low report a b ≡ pair n full low report a b
    unfolding pair
    listed_same list e = counted_same _ _ (listed_right _ e) taken_right
