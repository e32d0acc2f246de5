-- The two lists, written row by row, and a row, word by word.
-- Assumes nothing.
use mathlib.Core.Path.{◌≡◌, ap, ◌∙◌}
use mathlib.Core.Bool.{Bool}
use mathlib.Core.List.{List, [], ◌∷◌, ◌++◌, map, map-append}
use Prim.Native.Nat.{ℕ, ◌+◌, ◌-◌, ◌*◌, ◌≤◌, ◌<◌}
use native.Mathlib.Numerals.{add-one}
use native.Mathlib.Omega.{arith}
use lib.ListN.{length, get_or, set, length-append}
use Rattle.base_lists.specs.Written.{Wrote}
use Rattle.base_lists.proofs.Written.{wrote_none, wrote_one, wrote_then, wrote_room, wrote_length, wrote_over}
use Rattle.model.specs.Basics.{from, up_to, keep, gather, over}
use Rattle.model.specs.Survey.{Graph}
use Rattle.model.specs.Reading.{starts_of, neighbours_from}
use Rattle.model.proofs.Lists.{keep_append, gather_append, gather_suc, up_to_suc, up_to_add}
use Rattle.model.proofs.Entries.{length_row}
use Rattle.base_nodeset.specs.NodeSet.{bit, member, members_from}
use Rattle.base_nodeset.proofs.Bits.{word_bit}
use Rattle.base_nodeset.proofs.Words.{next_word}
use Rattle.base_nodeset.specs.Matrix.{edges_in}
use Rattle.base_nodeset.proofs.Matrix.{edge_bit}
use Rattle.survey_reading_lists.specs.MatrixRows.{rows_in}

-- what is kept of the numbers below u is no more than of those below n
kept_below : (f : ℕ → Bool) (u n : ℕ) → u ≤ n → length (keep f (up_to u)) ≤ length (keep f (up_to n))
kept_below f u n h =
    let e : up_to n ≡ up_to u ++ from u (n - u) = up_to_add _ _ _ (omega arith) in
    rw (e, keep_append, length-append) (omega arith)

-- ---- a row, word by word

-- the row of v, as far as w words go
unfoldable pub row_to : List ℕ → ℕ → ℕ → List ℕ
row_to ws v w = keep (edges_in ws v) (up_to (64 * w))

word_bits : (ws : List ℕ) (v : ℕ) {w i : ℕ} → w < 16 → i < 64 → edges_in ws v (64 * w + i) ≡ bit (get_or ws (v * 16 + w) 0) i
word_bits ws v {w} {i} hw hi =
    let e : 1024 * v + (64 * w + i) ≡ 64 * (v * 16 + w) + i = omega arith in
    edge_bit _ _ _ (omega arith) ∙ ap (member ws) e ∙ word_bit _ _ _ hi

-- the set bits of word w of the row
abbrev pub word_in : List ℕ → ℕ → ℕ → List ℕ
word_in ws v w = members_from 64 (64 * w) (get_or ws (v * 16 + w) 0)

-- w words of the row are written
pub record Row (ws : List ℕ) (v : ℕ) (x₀ x : List ℕ) (at pos w : ℕ) : Type 0 where
  pub room : at + length (rows_in ws v) ≤ length x₀
  pub within : w ≤ 16
  pub wrote : Wrote x₀ x at pos (row_to ws v w)

pub row_none : {ws : List ℕ} {v : ℕ} {x₀ : List ℕ} {at : ℕ} → at + length (rows_in ws v) ≤ length x₀ → Row ws v x₀ x₀ at at 0
unfolding row_to up_to from keep
row_none {x₀ = x₀} {at = at} room = record { room = room; within = omega arith; wrote = wrote_none _ at }

module _ {ws : List ℕ} {v : ℕ} {x₀ x : List ℕ} {at pos w : ℕ} (r : Row ws v x₀ x at pos w) where
  pub row_long : length x ≡ length x₀
  unfolding row_to rows_in
  row_long =
      let k = kept_below (edges_in ws v) (64 * w) 1024 (omega (arith, r.within)) in
      wrote_length (omega (arith, r.room)) r.wrote

  pub row_whole : 16 ≤ w → Wrote x₀ x at pos (rows_in ws v)
  unfolding row_to rows_in
  row_whole h = let e : 64 * w ≡ 1024 = omega (arith, r.within) in rw e at r.wrote

  -- the next word
  module _ (h : w < 16) where
    row_turn : row_to ws v (w + 1) ≡ row_to ws v w ++ word_in ws v w
    unfolding row_to
    row_turn = next_word _ _ _ (λ i k. word_bits _ _ h k)

    word_room : at + length (row_to ws v w) + length (word_in ws v w) ≤ length x₀
    unfolding row_to rows_in
    word_room =
        let k = kept_below (edges_in ws v) (64 * (w + 1)) 1024 (omega arith) in
        omega (arith, r.room, ap length row_turn ∙ length-append (row_to ws v w) (word_in ws v w))

    pub word_fits : pos + length (word_in ws v w) ≤ length x
    word_fits = wrote_room (word_in ws v w) word_room r.wrote

    pub word_more : {x' : List ℕ} {pos' : ℕ} → Wrote x x' pos pos' (word_in ws v w) → Row ws v x₀ x' at pos' (w + 1)
    word_more k = record { room = r.room; within = omega arith; wrote = rw row_turn (wrote_then word_room r.wrote k) }

-- ---- both lists, row by row

gather_more : (G : Graph) (v : ℕ) → gather G (up_to (v + 1)) ≡ gather G (up_to v) ++ G v
gather_more G v = rw (add-one, gather_suc)

gather_mono : (G : Graph) (v n : ℕ) → v ≤ n → length (gather G (up_to v)) ≤ length (gather G (up_to n))
gather_mono G v n h =
    let e : up_to n ≡ up_to v ++ from v (n - v) = up_to_add _ _ _ (omega arith) in
    rw (e, gather_append, length-append) (omega arith)

-- the starts of the nodes below v
unfoldable pub starts_to : Graph → ℕ → List ℕ
starts_to G v = map (λ u. length (gather G (up_to u))) (up_to v)

starts_suc : (G : Graph) (v : ℕ) → starts_to G (v + 1) ≡ starts_to G v ++ length (gather G (up_to v)) ∷ []
unfolding starts_to
starts_suc G v = rw (add-one, up_to_suc, map-append)

-- the lists after v nodes
pub record Lists (G : Graph) (n : ℕ) (s₀ x₀ s x : List ℕ) (pos v : ℕ) : Type 0 where
  pub starts_room : n + 1 ≤ length s₀
  pub neighbours_room : length (neighbours_from n G) ≤ length x₀
  pub within : v ≤ n
  pub starts : Wrote s₀ s 0 v (starts_to G v)
  pub neighbours : Wrote x₀ x 0 pos (gather G (up_to v))

pub lists_none : {G : Graph} {n : ℕ} {s₀ x₀ : List ℕ} → n + 1 ≤ length s₀ → length (neighbours_from n G) ≤ length x₀
    → Lists G n s₀ x₀ s₀ x₀ 0 0
unfolding starts_to up_to from gather
lists_none {s₀ = s₀} {x₀ = x₀} hs hx = record {
  starts_room = hs;
  neighbours_room = hx;
  within = omega arith;
  starts = wrote_none _ _;
  neighbours = wrote_none _ _;
}

module _ {G : Graph} {n : ℕ} {s₀ x₀ s x : List ℕ} {pos v : ℕ} (l : Lists G n s₀ x₀ s x pos v) where
  -- the place is the count of the neighbours of the nodes below v
  place : pos ≡ length (gather G (up_to v))
  place = omega (arith, l.neighbours.ends)

  pub place_small : pos ≤ length (neighbours_from n G)
  unfolding neighbours_from
  place_small = omega (arith, place, gather_mono G v n l.within)

  -- the start of node v
  start_room : 0 + length (starts_to G v) + 1 ≤ length s₀
  unfolding starts_to
  start_room = omega (arith, length_row (λ u. length (gather G (up_to u))) v, l.within, l.starts_room)

  pub start_here : v < length s
  start_here = omega (arith, wrote_room (0 ∷ []) start_room l.starts)

  pub starts_long : length s ≡ length s₀
  starts_long = wrote_length (omega (arith, start_room)) l.starts

  start_more : Wrote s₀ (set s v pos) 0 (v + 1) (starts_to G (v + 1))
  start_more = rw (starts_suc, ← place) (wrote_then start_room l.starts (wrote_one _ _ _ (omega (arith, start_here))))

  pub neighbours_long : length x ≡ length x₀
  unfolding neighbours_from
  neighbours_long = wrote_length (omega (arith, gather_mono G v n l.within, l.neighbours_room)) l.neighbours

  -- the row of node v
  module _ (h : v < n) where
    row_room : 0 + length (gather G (up_to v)) + length (G v) ≤ length x₀
    unfolding neighbours_from
    row_room =
        let k = gather_mono G (v + 1) n (omega arith) in
        omega (arith, ap length (gather_more G v) ∙ length-append (gather G (up_to v)) (G v), l.neighbours_room)

    pub row_fits : pos + length (G v) ≤ length x
    row_fits = wrote_room (G v) row_room l.neighbours

    pub lists_more : {x' : List ℕ} {pos' : ℕ} → Wrote x x' pos pos' (G v) → Lists G n s₀ x₀ (set s v pos) x' pos' (v + 1)
    lists_more w = record {
      starts_room = l.starts_room;
      neighbours_room = l.neighbours_room;
      within = omega arith;
      starts = start_more;
      neighbours = rw gather_more (wrote_then row_room l.neighbours w);
    }

  -- after the last node, with its start behind the others
  pub lists_done : v ≡ n → (set s n pos ≡ over (starts_of n G) s₀) × (x ≡ over (neighbours_from n G) x₀)
  unfolding starts_of neighbours_from starts_to
  lists_done e = ((wrote_over _ (rw e at start_more)).0, (wrote_over _ (rw e at l.neighbours)).0)
