-- A row of which the entries of a node's own neighbours are set to 1.
-- Assumes nothing.
use mathlib.Core.Path.{◌≡◌, refl, sym, ap, ◌∙◌}
use mathlib.Core.Logic.{◌⊎◌, inl, inr}
use mathlib.Core.Bool.{◌||◌}
use mathlib.Core.List.{List, [], ◌∷◌, map}
use Prim.Native.Nat.{ℕ, ◌+◌, ◌≤◌, ◌<◌}
use borrow.Author.Tests.{eq-eqb, ne_eqb}
use native.Mathlib.Omega.{arith}
use lib.Dec.{T, eqb}
use lib.ListN.{length, get_or, drop, set, length-set, drop_of_length-le}
use lib.Seq.{get_or-set_same, get_or-set_other}
use Rattle.model.specs.Basics.{up_to, has}
use Rattle.std.specs.Prelude.{if◌then◌else◌}
use Rattle.model.proofs.Ascending.{get_d_has}
use Rattle.model.proofs.Loops.{drop_next}
use Rattle.model.proofs.Tests.{picked, eq_or}
use Rattle.base_lists.proofs.TableRows.{is_row, row_same}
use Rattle.table_report.specs.Relaxed.{links_set}

links_none : (row : List ℕ) → links_set [] row ≡ row
unfolding links_set has
links_none row = sym (is_row _ _ row refl (λ b h. refl))

-- the first neighbour is set, then the others
links_first : (x : ℕ) (own row : List ℕ) → x < length row → links_set own (set row x 1) ≡ links_set (x ∷ own) row
unfolding links_set has
links_first x own row h =
    ap (λ (k : ℕ). map (λ b. if has b own then 1 else get_or (set row x 1) b 0) (up_to k)) (length-set row x 1)
    ∙ row_same _ _ _ (λ b l. at b (eq_or b x))
  where
    at : (b : ℕ) → (b ≡ x) ⊎ (b ≡ x → ⊥)
        → (if has b own then 1 else get_or (set row x 1) b 0) ≡ (if eqb b x || has b own then 1 else get_or row b 0)
    at b (inl e) =
        rw (eq-eqb b x e) (
        picked (λ (v : ℕ). v ≡ 1) (has b own) _ _ (λ _. refl)
        (λ _. ap (λ (c : ℕ). get_or (set row x 1) c 0) e ∙ get_or-set_same row x 1 0 h))
    at b (inr d) = rw (ne_eqb b x d, get_or-set_other row x b 1 0 d)

-- after i neighbours, those that are left still determine the result
pub record Linking (own row₀ row : List ℕ) (i : ℕ) : Type 0 where
  pub same : length row ≡ length row₀
  pub whole : links_set (drop i own) row ≡ links_set own row₀

module _ {own row₀ row : List ℕ} {i : ℕ} (r : Linking own row₀ row i) where
  pub linking_inside : ((x : ℕ) → T (has x own) → x < length row₀) → i < length own → get_or own i 0 < length row
  linking_inside below h = omega (arith, r.same, below _ (get_d_has own i h))

  pub linking_next : i < length own → get_or own i 0 < length row → Linking own row₀ (set row (get_or own i 0) 1) (i + 1)
  linking_next h inside = record {
    same = length-set row _ 1 ∙ r.same;
    whole = links_first _ _ row inside ∙ ap (λ (l : List ℕ). links_set l row) (sym (drop_next own i h)) ∙ r.whole;
  }

  pub linking_done : length own ≤ i → row ≡ links_set own row₀
  linking_done h = sym (links_none row) ∙ ap (λ (l : List ℕ). links_set l row) (sym (drop_of_length-le own h)) ∙ r.whole
