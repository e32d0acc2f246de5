-- A part of a list that was lent and is put back, entry by entry.
-- Assumes nothing.
use mathlib.Core.Path.{◌≡◌, sym, ap, ◌∙◌}
use mathlib.Core.List.{List}
use Prim.Native.Nat.{ℕ, ◌+◌, ◌-◌, ◌≤◌, ◌<◌}
use native.Mathlib.Omega.{arith}
use borrow.Rule.Slice.PartMut.{mid_of, put_mid, take_put, drop_put}
use lib.ListN.{length, get_or, take, drop, get_or-append}
use lib.Seq.{get_or-take, get_or-drop, get_or-append-add, length-take-le}

pub mid_at : (a k : ℕ) (xs : List ℕ) (i : ℕ) → i < k → get_or (mid_of a k xs) i 0 ≡ get_or xs (a + i) 0
mid_at a k xs i h = get_or-take k (drop a xs) i 0 h ∙ get_or-drop a xs i 0

module _ (a e : ℕ) (xs ys : List ℕ) (rises : a ≤ e) (ends : e ≤ length xs) (size : length ys ≡ e - a) where
  pub put_before : (j : ℕ) → j < a → get_or (put_mid a (e - a) xs ys) j 0 ≡ get_or xs j 0
  put_before j h =
      sym (get_or-take a (put_mid a (e - a) xs ys) j 0 h)
      ∙ ap (λ (l : List ℕ). get_or l j 0) (take_put a (e - a) xs ys (omega arith))
      ∙ get_or-take a xs j 0 h

  pub put_after : (j : ℕ) → e ≤ j → get_or (put_mid a (e - a) xs ys) j 0 ≡ get_or xs j 0
  put_after j h =
      let i : e + (j - e) ≡ j = omega arith in
      ap (λ (k : ℕ). get_or (put_mid a (e - a) xs ys) k 0) (sym i)
      ∙ sym (get_or-drop e (put_mid a (e - a) xs ys) (j - e) 0)
      ∙ ap (λ (l : List ℕ). get_or l (j - e) 0) (drop_put a e xs ys rises ends size)
      ∙ get_or-drop e xs (j - e) 0
      ∙ ap (λ (k : ℕ). get_or xs k 0) i

  pub put_within : (i : ℕ) → i < e - a → get_or (put_mid a (e - a) xs ys) (a + i) 0 ≡ get_or ys i 0
  put_within i h =
      let front : length (take a xs) ≡ a = length-take-le a xs (omega arith) in
      ap (λ (k : ℕ). get_or (put_mid a (e - a) xs ys) (k + i) 0) (sym front)
      ∙ get_or-append-add (take a xs) _ i 0
      ∙ get_or-append ys _ 0 i (omega arith)
