-- Laws of the decimal text of a number. Exactly the texts of numbers of at most ten digits are accepted.
-- Assumes nothing.
use mathlib.Core.Path.{◌≡◌, refl, sym, ap, ◌∙◌}
use mathlib.Core.Logic.{◌⊎◌, inl, inr, ⊎_elim}
use mathlib.Core.Bool.{true, not, ◌&&◌, ◌||◌}
use mathlib.Core.List.{List, [], ◌∷◌, ◌++◌, append_assoc, append-nil}
use Prim.Native.Nat.{ℕ, zero, suc, ◌+◌, ◌-◌, ◌*◌, ◌/◌, ◌%◌, ◌^◌, ◌≤◌, ◌<◌, zero-le, suc-le-suc}
use native.Mathlib.Nat.{not-suc-le-zero, le_refl, le_of_suc-le-suc, pow-suc, div-lt_iff_lt-mul, zero-lt-suc, lt_of_lt_of_le, pow-le-pow_right}
use native.Mathlib.Omega.{arith}
use lib.ListN.{length, length-append}
use lib.Dec.{T, leb, eqb, leb→le, le→leb, eqb→eq, not_T, T_not}
use lib.Arith.{digits_div, digits_mod}
use borrow.Author.Tests.{lt-ltb, le-ltb}
use Rattle.model.specs.Basics.{all}
use Rattle.model.specs.Numbers.{is_digit, is_number, value_from, value_of, digits_within, digits}
use Rattle.model.proofs.Tests.{and_l, and_r, and_i, or_l, or_r, or_e, lt_or, eq_T}
use Rattle.model.proofs.Lists.{all_append}

-- ---- the digits of a number

within_small : (f n : ℕ) → n < 10 → digits_within (suc f) n ≡ (48 + n) ∷ []
unfolding digits_within
within_small f n h = rw (lt-ltb n 10 h)

within_more : (f n : ℕ) → 10 ≤ n → digits_within (suc f) n ≡ digits_within f (n / 10) ++ ((48 + n % 10) ∷ [])
unfolding digits_within
within_more f n h = rw (le-ltb n 10 h)

-- more steps than needed change nothing
within_any : (f g n : ℕ) → n < f → n < g → digits_within f n ≡ digits_within g n
within_any zero g n h k = absurd (not-suc-le-zero h)
within_any (suc f) zero n h k = absurd (not-suc-le-zero k)
within_any (suc f) (suc g) n h k =
    ⊎_elim
    (λ l. within_small _ _ l ∙ sym (within_small _ _ l))
    (λ l. within_more _ _ l ∙ (rw (within_any f g (n / 10) (omega arith) (omega arith)))
    ∙ sym (within_more _ _ l))
    (lt_or n 10)

pub digits_small : (n : ℕ) → n < 10 → digits n ≡ (48 + n) ∷ []
unfolding digits
digits_small n h = within_small _ _ h

pub digits_more : (n : ℕ) → 10 ≤ n → digits n ≡ digits (n / 10) ++ ((48 + n % 10) ∷ [])
unfolding digits
digits_more n h =
    within_more _ _ h
    ∙ ap (λ (t : List ℕ). t ++ ((48 + n % 10) ∷ [])) (within_any _ _ _ (omega arith) (omega arith))

-- induction on the decimal digits
pub digits_ind : (P : ℕ → Type 0) → ((n : ℕ) → n < 10 → P n) → ((n : ℕ) → 10 ≤ n → P (n / 10) → P n) → (n : ℕ) → P n
digits_ind P small more n = go (suc n) n (le_refl _)
  where
    go : (f m : ℕ) → m < f → P m
    go zero m h = absurd (not-suc-le-zero h)
    go (suc f) m h = ⊎_elim (λ l. small m l) (λ l. more m l (go f (m / 10) (omega arith))) (lt_or m 10)

-- ---- how many digits there are

pub length_small : (n : ℕ) → n < 10 → length (digits n) ≡ 1
length_small n h = ap length (digits_small _ h)

pub length_more : (n : ℕ) → 10 ≤ n → length (digits n) ≡ length (digits (n / 10)) + 1
length_more n h = ap length (digits_more _ h) ∙ length-append (digits (n / 10)) _

pub digits_pos : (n : ℕ) → 0 < length (digits n)
digits_pos n = ⊎_elim (λ l. omega (arith, length_small n l)) (λ l. omega (arith, length_more n l)) (lt_or n 10)

-- n has at most k + 1 digits exactly where it is below 10 ^ (k + 1)
pub length_le : (k n : ℕ) → n < 10 ^ suc k → length (digits n) ≤ suc k
length_le zero n h = omega (arith, length_small n (omega (arith, h)))
length_le (suc k) n h =
    ⊎_elim
    (λ l. omega (arith, length_small n l))
    (λ l. omega (arith, length_more n l, length_le k (n / 10) ((div-lt_iff_lt-mul (zero-lt-suc _)).1 (rw pow-suc at h))))
    (lt_or n 10)

pub below_pow : (k n : ℕ) → length (digits n) ≤ suc k → n < 10 ^ suc k
below_pow zero n h = ⊎_elim (λ l. l) (λ l. omega (arith, length_more n l, digits_pos (n / 10))) (lt_or n 10)
below_pow (suc k) n h =
    ⊎_elim
    (λ l. lt_of_lt_of_le l (pow-le-pow_right {n = 10} (zero-lt-suc _) (suc-le-suc zero-le)))
    (λ l. rw pow-suc ((div-lt_iff_lt-mul (zero-lt-suc _)).0 (below_pow k (n / 10) (omega (arith, length_more n l)))))
    (lt_or n 10)

-- ---- digits as bytes

pub digit_bounds : (b : ℕ) → T (is_digit b) → (48 ≤ b) × (b ≤ 57)
unfolding is_digit
digit_bounds b t = (leb→le _ _ (and_l (leb 48 b) (leb b 57) t), leb→le _ _ (and_r (leb 48 b) (leb b 57) t))

pub bounds_digit : (b : ℕ) → 48 ≤ b → b ≤ 57 → T (is_digit b)
unfolding is_digit
bounds_digit b h k = and_i (leb 48 b) (leb b 57) (le→leb _ _ h) (le→leb _ _ k)

pub one_digit : (b : ℕ) → T (is_digit b) → T (all is_digit (b ∷ []))
unfolding all
one_digit b t = and_i (is_digit b) true t tt

pub digits_all : (n : ℕ) → T (all is_digit (digits n))
digits_all =
    digits_ind _
    (λ n l. rw (digits_small n l) (one_digit _ (bounds_digit _ (omega arith) (omega arith))))
    (λ n l ih. rw (digits_more n l)
    (all_append _ _ _ ih
    (one_digit _ (bounds_digit _ (omega arith) (omega arith)))))

-- ---- the value of digits

value_snoc : (v : ℕ) (t : List ℕ) (b : ℕ) → value_from v (t ++ (b ∷ [])) ≡ value_from v t * 10 + (b - 48)
unfolding value_from
value_snoc v [] b = refl
value_snoc v (c ∷ t) b = value_snoc (v * 10 + (c - 48)) t _

pub value_digits : (n : ℕ) → value_of (digits n) ≡ n
unfolding value_of value_from
value_digits =
    digits_ind _
    (λ n l. rw (digits_small n l) (omega arith))
    (λ n l ih. rw (digits_more n l, value_snoc _ _ _, ih) (omega arith))

digits_one : (b : ℕ) → T (is_digit b) → digits (b - 48) ≡ b ∷ []
digits_one b t =
    let h = digit_bounds _ t in
    let e : 48 + (b - 48) ≡ b = omega arith in
    digits_small (b - 48) (omega arith) ∙ rw e

digits_step : (v b : ℕ) → 0 < v → T (is_digit b) → digits (v * 10 + (b - 48)) ≡ digits v ++ (b ∷ [])
digits_step v b p t =
    let h = digit_bounds _ t in
    let d : b - 48 < 10 = omega arith in
    let e : 48 + (b - 48) ≡ b = omega arith in
    digits_more (v * 10 + (b - 48)) (omega arith) ∙ rw (digits_div v d, digits_mod v d, e)

digits_from : (t : List ℕ) (v : ℕ) → 0 < v → T (all is_digit t) → digits (value_from v t) ≡ digits v ++ t
unfolding value_from all
digits_from [] v p a = sym (append-nil _)
digits_from (b ∷ t) v p a =
    let d = and_l (is_digit b) (all is_digit t) a in
    digits_from t (v * 10 + (b - 48)) (omega arith) (and_r (is_digit b) (all is_digit t) a)
    ∙ ap (λ (x : List ℕ). x ++ t) (digits_step _ _ p d)
    ∙ append_assoc (digits v) _ _

not_zero_digit : (b : ℕ) → T (is_digit b) → T (not (eqb b 48)) → 0 < b - 48
not_zero_digit b t k =
    let h = digit_bounds _ t in
    let ne : b ≡ 48 → ⊥ = (λ e. T_not (eqb b 48) k (eq_T b 48 e)) in
    omega arith

-- what the text rule says of a number's bytes
pub record NumberText (d : ℕ) (ds : List ℕ) : Type 0 where
  pub every : T (all is_digit (d ∷ ds))
  pub few : length ds ≤ 9
  pub lead : (length ds ≡ 0) ⊎ T (not (eqb d 48))

pub number_text : (d : ℕ) (ds : List ℕ) → T (is_number (d ∷ ds)) → NumberText d ds
unfolding is_number
number_text d ds t =
    let A = all is_digit (d ∷ ds) in
    let B = leb (length ds) 9 in
    let C = eqb (length ds) 0 || not (eqb d 48) in
    record {
      every = and_l A B (and_l (A && B) C t);
      few = leb→le (length ds) 9 (and_r A B (and_l (A && B) C t));
      lead = ⊎_elim (λ e. inl (eqb→eq (length ds) 0 e)) (λ e. inr e) (or_e (eqb (length ds) 0) (not (eqb d 48)) (and_r (A && B) C t));
    }

pub text_number : (d : ℕ) (ds : List ℕ) → NumberText d ds → T (is_number (d ∷ ds))
unfolding is_number
text_number d ds r =
    let A = all is_digit (d ∷ ds) in
    let B = leb (length ds) 9 in
    let C = eqb (length ds) 0 || not (eqb d 48) in
    and_i (A && B) C (and_i A B r.every (le→leb _ _ r.few))
    (⊎_elim (λ e. or_l (eqb (length ds) 0) (not (eqb d 48)) (eq_T _ _ e))
    (λ e. or_r (eqb (length ds) 0) (not (eqb d 48)) e) r.lead)

-- digits that the text rule admits are the decimal text of their value
pub digits_value : (t : List ℕ) → T (is_number t) → digits (value_of t) ≡ t
unfolding value_of value_from all is_number
digits_value [] n = absurd n
digits_value (b ∷ []) n =
    let r = number_text _ [] n in
    let z : 0 * 10 + (b - 48) ≡ b - 48 = omega arith in
    ap digits z ∙ digits_one _ (and_l (is_digit b) true r.every)
digits_value (b ∷ c ∷ t) n =
    let r = number_text _ (c ∷ t) n in
    let z : 0 * 10 + (b - 48) ≡ b - 48 = omega arith in
    let d = and_l (is_digit b) (all is_digit (c ∷ t)) r.every in
    digits_from _ _ (omega (arith, not_zero_digit b d (⊎_elim (λ e. absurd (omega arith)) (λ e. e) r.lead)))
    (and_r (is_digit b) (all is_digit (c ∷ t)) r.every)
    ∙ ap (λ (x : List ℕ). x ++ c ∷ t) (ap digits z ∙ digits_one _ d)

number_length : (t : List ℕ) → T (is_number t) → length t ≤ 10
unfolding is_number
number_length [] n = absurd n
number_length (d ∷ ds) n = suc-le-suc (number_text _ _ n).few

-- and their value is below 10 ^ 10
pub value_below : (t : List ℕ) → T (is_number t) → value_of t < 10 ^ 10
value_below t n = below_pow _ _ (rw (← digits_value _ n) at (number_length _ n))

-- the text of a positive number does not begin with 0
first_digit : (n : ℕ) → 0 < n → (h : ℕ) × (t : List ℕ) × (digits n ≡ h ∷ t) × (48 < h)
first_digit =
    digits_ind _
    (λ n l p. (48 + n, [], digits_small _ l, omega arith))
    (λ n l ih p.
    let f = ih (omega arith) in
    (f.0, f.1 ++ ((48 + n % 10) ∷ []), digits_more _ l ∙ rw f.2, f.3))

-- the text of a number of at most ten digits is one that the text rule admits
pub digits_number : (n : ℕ) → n < 10 ^ 10 → T (is_number (digits n))
digits_number n l =
    ⊎_elim
    (λ s. rw (digits_small n s) (text_number _ _ (record {
      every = one_digit _ (bounds_digit _ (omega arith) (omega arith));
      few = zero-le;
      lead = inl refl;
    })))
    (λ m.
    let f = first_digit n (omega arith) in
    let ne : f.0 ≡ 48 → ⊥ = (λ e. omega (arith, f.3)) in
    rw f.2 (text_number f.0 f.1 (record {
      every = rw f.2 at (digits_all n);
      few = le_of_suc-le-suc (rw f.2 at (length_le 9 n l));
      lead = inr (not_T (eqb f.0 48) (λ t. ne (eqb→eq _ _ t)));
    })))
    (lt_or n 10)
