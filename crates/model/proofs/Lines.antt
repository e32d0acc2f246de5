-- A text begins with a line of some shape (a word, and fields that a byte parts) exactly where it is the text of the line's fields and
-- something after it: for fields of bytes, for numbers of at most ten digits, and for the line `letter,x,y`.
-- Assumes nothing.
use mathlib.Core.Path.{◌≡◌, refl, sym, ap, ap₂, ◌∙◌, subst}
use mathlib.Core.Logic.{◌⊎◌, inl, inr, ⊎_elim}
use mathlib.Core.Bool.{Bool, true, false}
use mathlib.Core.List.{List, [], ◌∷◌, ◌++◌, map, append_assoc, append-nil}
use mathlib.Core.Option
use mathlib.Core.Option.{Option, none as missing, some, bind, bind-eq-some_iff, map-eq-some_iff}
use Prim.Native.Nat.{ℕ, zero, suc, ◌+◌, ◌^◌, ◌<◌}
use native.Mathlib.Omega.{arith}
use borrow.Author.Tests.{eqb-true, eqb-false}
use lib.ListN.{length, length-append, get_or}
use lib.Dec.{T, eqb, eqb→eq}
use Rattle.model.specs.Basics.{has, gather}
use Rattle.std.specs.Prelude.{if◌then◌else◌}
use Rattle.model.specs.Numbers.{is_number, value_of, digits}
use Rattle.model.specs.Lines.{on_first, split, joined, AllFree, on_front, cut, behind, after_empty, fields_behind, field_line}
use Rattle.model.specs.Lines.{with_rest, numbers_in, number_line, two_line, fields_text, field_line_of, number_line_of}
use Rattle.model.specs.SurveyText.{line, line_of}
use Rattle.model.proofs.Tests.{T_true, true_T, no_false, eq_T}
use Rattle.model.proofs.Lists.{has_head, has_tail, of_cons, of_single, of_all, has_append, has_later, of_append, none_in}
use Rattle.model.proofs.Outcomes.{no_value}
use Rattle.model.proofs.Numbers.{digit_bounds, digits_all, value_digits, digits_value, value_below, digits_number}

-- ---- up to a byte

pub cut_at : (c : ℕ) (p q : List ℕ) → (T (has c p) → ⊥) → cut c (p ++ c ∷ q) ≡ some (p, q)
unfolding cut on_front
cut_at c [] q f = ap (λ (b : Bool). if b then some ([], q) else on_front c (cut c q)) (T_true (eqb c c) (eq_T c c refl))
cut_at c (x ∷ p) q f =
    ap (λ (b : Bool). if b then some ([], p ++ c ∷ q) else on_front x (cut c (p ++ c ∷ q)))
    (no_false (eqb x c) (λ t. f (subst (λ (z : ℕ). T (has z (x ∷ p))) (eqb→eq x c t) (has_head _ _))))
    ∙ ap (on_front x) (cut_at c p q (λ t. f (has_tail _ _ _ t)))

pub cut_is : (c : ℕ) (s p q : List ℕ) → cut c s ≡ some (p, q) → s ≡ p ++ c ∷ q
unfolding cut on_front
cut_is c [] p q e = no_value e
cut_is c (x ∷ s) p q e = at (eqb x c) refl (cut c s) e (λ p q. cut_is c s p q)
  where
    at : (b : Bool) → eqb x c ≡ b → (o : Option (List ℕ × List ℕ)) → (if b then some ([], s) else on_front x o) ≡ some (p, q)
        → ((p q : List ℕ) → o ≡ some (p, q) → s ≡ p ++ c ∷ q) → x ∷ s ≡ p ++ c ∷ q
    at true h o e rec =
        let f : ◌≡◌ {A = List ℕ × List ℕ} ([], s) (p, q) = cc in
        let k : ◌≡◌ {A = List ℕ} [] p = ap (λ (r : List ℕ × List ℕ). r.0) f in
        let l : s ≡ q = ap (λ (r : List ℕ × List ℕ). r.1) f in
        ap₂ (λ (z : ℕ) (t : List ℕ). z ∷ t) (eqb-true _ _ h) l ∙ ap (λ (t : List ℕ). t ++ c ∷ q) k
    at false h missing e rec = no_value e
    at false h (some r) e rec =
        let f : ◌≡◌ {A = List ℕ × List ℕ} (x ∷ r.0, r.1) (p, q) = cc in
        ap (λ (t : List ℕ). x ∷ t) (rec r.0 r.1 refl)
        ∙ ap₂ (λ (s t : List ℕ). s ++ c ∷ t) (ap (λ (r : List ℕ × List ℕ). r.0) f) (ap (λ (r : List ℕ × List ℕ). r.1) f)

-- where there is no such byte, nothing is cut
pub cut_none : (c : ℕ) (s : List ℕ) → (T (has c s) → ⊥) → cut c s ≡ missing
unfolding cut on_front
cut_none c [] f = refl
cut_none c (x ∷ s) f =
    ap (λ (b : Bool). if b then some ([], s) else on_front x (cut c s))
    (no_false (eqb x c) (λ t. f (subst (λ (z : ℕ). T (has z (x ∷ s))) (eqb→eq x c t) (has_head _ _))))
    ∙ ap (on_front x) (cut_none c s (λ t. f (has_tail _ _ _ t)))

pub of_cut_none : (c : ℕ) (s : List ℕ) → cut c s ≡ missing → T (has c s) → ⊥
unfolding cut on_front
of_cut_none c [] e t = none_in _ t
of_cut_none c (x ∷ s) e t = at (eqb x c) refl (cut c s) e (of_cut_none c s) (of_cons _ _ _ t)
  where
    at : (b : Bool) → eqb x c ≡ b → (o : Option (List ℕ × List ℕ)) → (if b then some ([], s) else on_front x o) ≡ missing
        → (o ≡ missing → T (has c s) → ⊥) → (c ≡ x) ⊎ T (has c s) → ⊥
    at true h o e rec i = let z : ◌≡◌ {A = ℕ} 0 1 = cc in omega arith
    at false h missing e rec (inl i) = eqb-false _ _ h (sym i)
    at false h missing e rec (inr t) = rec refl t
    at false h (some r) e rec i = let z : ◌≡◌ {A = ℕ} 0 1 = cc in omega arith

-- ---- the fields

pub split_none : (c : ℕ) (p : List ℕ) → (T (has c p) → ⊥) → split c p ≡ p ∷ []
unfolding split on_first
split_none c [] f = refl
split_none c (x ∷ p) f =
    ap (λ (b : Bool). if b then [] ∷ split c p else on_first x (split c p))
    (no_false (eqb x c) (λ t. f (subst (λ (z : ℕ). T (has z (x ∷ p))) (eqb→eq x c t) (has_head _ _))))
    ∙ ap (on_first x) (split_none c p (λ t. f (has_tail _ _ _ t)))

pub split_at : (c : ℕ) (p q : List ℕ) → (T (has c p) → ⊥) → split c (p ++ c ∷ q) ≡ p ∷ split c q
unfolding split on_first
split_at c [] q f = ap (λ (b : Bool). if b then [] ∷ split c q else on_first c (split c q)) (T_true (eqb c c) (eq_T c c refl))
split_at c (x ∷ p) q f =
    ap (λ (b : Bool). if b then [] ∷ split c (p ++ c ∷ q) else on_first x (split c (p ++ c ∷ q)))
    (no_false (eqb x c) (λ t. f (subst (λ (z : ℕ). T (has z (x ∷ p))) (eqb→eq x c t) (has_head _ _))))
    ∙ ap (on_first x) (split_at c p q (λ t. f (has_tail _ _ _ t)))

joined_first : (c x : ℕ) (fs : List (List ℕ)) → joined c (on_first x fs) ≡ x ∷ joined c fs
unfolding joined on_first gather
joined_first c x [] = refl
joined_first c x (f ∷ fs) = refl

-- there is always a field
pub split_some : (c : ℕ) (s : List ℕ) → (f : List ℕ) × (fs : List (List ℕ)) × (split c s ≡ f ∷ fs)
unfolding split on_first
split_some c [] = ([], [], refl)
split_some c (x ∷ s) = at (eqb x c) (split_some c s)
  where
    at : (b : Bool) → ((f : List ℕ) × (fs : List (List ℕ)) × (split c s ≡ f ∷ fs))
        → (f : List ℕ) × (fs : List (List ℕ)) × ((if b then [] ∷ split c s else on_first x (split c s)) ≡ f ∷ fs)
    at true i = ([], split c s, refl)
    at false i = (x ∷ i.0, i.1, ap (on_first x) i.2)

pub joined_split : (c : ℕ) (s : List ℕ) → joined c (split c s) ≡ s
unfolding split joined gather
joined_split c [] = refl
joined_split c (x ∷ s) = at (eqb x c) refl (joined_split c s) (split_some c s)
  where
    at : (b : Bool) → eqb x c ≡ b → joined c (split c s) ≡ s → ((f : List ℕ) × (fs : List (List ℕ)) × (split c s ≡ f ∷ fs))
        → joined c (if b then [] ∷ split c s else on_first x (split c s)) ≡ x ∷ s
    at true h e i =
        ap (λ (r : List (List ℕ)). joined c ([] ∷ r)) i.2
        ∙ ap₂ (λ (z : ℕ) (t : List ℕ). z ∷ t) (sym (eqb-true _ _ h)) (ap (joined c) (sym i.2) ∙ e)
    at false h e i = joined_first _ _ _ ∙ ap (λ (t : List ℕ). x ∷ t) e

-- the fields have no byte c in them
pub split_free : (c : ℕ) (s : List ℕ) → AllFree c (split c s)
unfolding split on_first
split_free c [] = (none_in _, tt)
split_free c (x ∷ s) = at (eqb x c) refl (split c s) (split_free c s)
  where
    at : (b : Bool) → eqb x c ≡ b → (fs : List (List ℕ)) → AllFree c fs → AllFree c (if b then [] ∷ fs else on_first x fs)
    at true h fs f = (none_in _, f)
    at false h [] f = (λ t. eqb-false _ _ h (sym (of_single _ _ t)), tt)
    at false h (g ∷ fs) f = (λ t. ⊎_elim (λ e. eqb-false _ _ h (sym e)) f.0 (of_cons _ _ _ t), f.1)

pub cut_free : (c : ℕ) (s p q : List ℕ) → cut c s ≡ some (p, q) → T (has c p) → ⊥
unfolding cut on_front
cut_free c [] p q e = no_value e
cut_free c (x ∷ s) p q e = at (eqb x c) refl (cut c s) e (λ p q. cut_free c s p q)
  where
    at : (b : Bool) → eqb x c ≡ b → (o : Option (List ℕ × List ℕ)) → (if b then some ([], s) else on_front x o) ≡ some (p, q)
        → ((p q : List ℕ) → o ≡ some (p, q) → T (has c p) → ⊥) → T (has c p) → ⊥
    at true h o e rec t =
        let f : ◌≡◌ {A = List ℕ × List ℕ} ([], s) (p, q) = cc in
        none_in c (subst (λ (l : List ℕ). T (has c l)) (sym (ap (λ (r : List ℕ × List ℕ). r.0) f)) t)
    at false h missing e rec t = no_value e
    at false h (some r) e rec t =
        let f : ◌≡◌ {A = List ℕ × List ℕ} (x ∷ r.0, r.1) (p, q) = cc in
        ⊎_elim (λ i. eqb-false _ _ h (sym i)) (rec r.0 r.1 refl)
        (of_cons _ _ _ (subst (λ (l : List ℕ). T (has c l)) (sym (ap (λ (r : List ℕ × List ℕ). r.0) f)) t))

-- ---- a word at the front

pub behind_word : (word body : List ℕ) → behind word (word ++ body) ≡ some body
unfolding behind
behind_word [] body = refl
behind_word (w ∷ word) body = rw (T_true (eqb w w) (eq_T w w refl)) (behind_word word body)

pub of_behind : (word body r : List ℕ) → behind word body ≡ some r → body ≡ word ++ r
unfolding behind
of_behind [] body r e = let i : body ≡ r = cc in i
of_behind (w ∷ word) [] r e = no_value e
of_behind (w ∷ word) (x ∷ body) r e = at (eqb x w) refl e (of_behind word body r)
  where
    at : (b : Bool) → eqb x w ≡ b → (if b then behind word body else missing) ≡ some r → (behind word body ≡ some r → body ≡ word ++ r)
        → x ∷ body ≡ w ∷ (word ++ r)
    at true h e rec = ap₂ (λ (z : ℕ) (t : List ℕ). z ∷ t) (eqb-true _ _ h) (rec e)
    at false h e rec = no_value e

-- ---- the fields of a line

-- what stands between the word and the line feed
body_text : (c : ℕ) (fs : List (List ℕ)) (rest : List ℕ) → fields_text c fs ++ rest ≡ gather (λ f. c ∷ f) fs ++ 10 ∷ rest
unfolding gather
body_text c [] rest = refl
body_text c (f ∷ fs) rest =
    ap (λ (t : List ℕ). c ∷ t) (append_assoc f _ _ ∙ ap (λ (t : List ℕ). f ++ t) (body_text c fs rest) ∙ sym (append_assoc f _ _))

pub line_text : (word : List ℕ) (c : ℕ) (fs : List (List ℕ)) (rest : List ℕ)
    → field_line_of word c fs ++ rest ≡ (word ++ gather (λ f. c ∷ f) fs) ++ 10 ∷ rest
line_text word c fs rest =
    append_assoc word (fields_text c fs) rest
    ∙ ap (λ (t : List ℕ). word ++ t) (body_text c fs rest)
    ∙ sym (append_assoc word (gather (λ f. c ∷ f) fs) (10 ∷ rest))

body_free : (c : ℕ) → (c ≡ 10 → ⊥) → (fs : List (List ℕ)) → AllFree 10 fs → T (has 10 (gather (λ f. c ∷ f) fs)) → ⊥
unfolding gather
body_free c d [] a t = none_in _ t
body_free c d (f ∷ fs) a t =
    ⊎_elim (λ e. d (sym e)) (λ t. ⊎_elim a.0 (body_free c d fs a.1) (of_append _ _ _ t)) (of_cons _ _ _ t)

free_body : (c : ℕ) (fs : List (List ℕ)) → (T (has 10 (gather (λ f. c ∷ f) fs)) → ⊥) → AllFree 10 fs
unfolding gather
free_body c [] n = tt
free_body c (f ∷ fs) n =
    let b : List ℕ = gather (λ f. c ∷ f) fs in
    (λ t. n (has_tail _ _ _ (has_append _ _ _ t)), free_body c fs (λ t. n (has_tail _ _ _ (has_later _ f _ t))))

pub split_fields : (c : ℕ) (f : List ℕ) (fs : List (List ℕ)) → (T (has c f) → ⊥) → AllFree c fs
    → split c (f ++ gather (λ f. c ∷ f) fs) ≡ f ∷ fs
unfolding gather
split_fields c f [] n a = ap (split c) (append-nil _) ∙ split_none _ _ n
split_fields c f (g ∷ fs) n a = split_at _ _ _ n ∙ ap (λ (r : List (List ℕ)). f ∷ r) (split_fields c g fs a.0 a.1)

-- a text begins with a line exactly where it is the text of the line's fields and something after it
module _ (word : List ℕ) (c : ℕ) where
  pub field_complete : (T (has 10 word) → ⊥) → (c ≡ 10 → ⊥) → (fs : List (List ℕ)) → AllFree c fs → AllFree 10 fs
      → (rest : List ℕ) → field_line word c (field_line_of word c fs ++ rest) ≡ some (fs, rest)
  unfolding field_line fields_behind after_empty bind
  field_complete w d fs a b rest =
      let body : List ℕ = gather (λ f. c ∷ f) fs in
      let free : T (has 10 (word ++ body)) → ⊥ = λ t. ⊎_elim w (body_free _ d _ b) (of_append _ _ _ t) in
      ap (field_line word c) (line_text word _ _ _)
      ∙ ap (λ (o : Option (List ℕ × List ℕ)). bind o (λ p. with_rest p.1 (fields_behind word c p.0))) (cut_at _ _ _ free)
      ∙ ap (λ (o : Option (List ℕ)). with_rest rest (bind o (λ r. after_empty (split c r)))) (behind_word _ _)
      ∙ ap (λ (o : List (List ℕ)). with_rest rest (after_empty o)) (split_fields _ [] _ (none_in _) a)

  pub record IsFieldLine (text : List ℕ) (fs : List (List ℕ)) (rest : List ℕ) : Type 0 where
    pub is_text : text ≡ field_line_of word c fs ++ rest
    pub parted : AllFree c fs
    pub ended : AllFree 10 fs

  after_empty_lem : (gs fs : List (List ℕ)) → after_empty gs ≡ some fs → gs ≡ [] ∷ fs
  unfolding after_empty
  after_empty_lem [] fs e = no_value e
  after_empty_lem ([] ∷ gs) fs e = ap (λ (l : List (List ℕ)). [] ∷ l) (let i : gs ≡ fs = cc in i)
  after_empty_lem ((x ∷ g) ∷ gs) fs e = no_value e

  pub field_sound : (text : List ℕ) (fs : List (List ℕ)) (rest : List ℕ) → field_line word c text ≡ some (fs, rest)
      → IsFieldLine text fs rest
  unfolding field_line fields_behind joined
  field_sound text fs rest e =
      let i = (bind-eq-some_iff (cut 10 text) (λ p. with_rest p.1 (fields_behind word c p.0))).0 e in
      let p = i.0 in
      let j = (map-eq-some_iff {B = List (List ℕ) × List ℕ} (λ fs. (fs, p.1)) (fields_behind word c p.0)).0 i.2 in
      let k = (bind-eq-some_iff _ (λ r. after_empty (split c r))).0 j.1 in
      let r = k.0 in
      let fields = after_empty_lem _ _ k.2 in
      let same_fields : j.0 ≡ fs = ap (λ (q : List (List ℕ) × List ℕ). q.0) j.2 in
      let same_rest : p.1 ≡ rest = ap (λ (q : List (List ℕ) × List ℕ). q.1) j.2 in
      let split_is : split c r ≡ [] ∷ fs = fields ∙ ap (λ (l : List (List ℕ)). [] ∷ l) same_fields in
      let body : p.0 ≡ word ++ gather (λ f. c ∷ f) fs =
      of_behind word p.0 r k.1 ∙ ap (λ (l : List ℕ). word ++ l) (sym (joined_split _ _) ∙ ap (joined c) split_is) in
      record {
        is_text = cut_is _ _ _ _ i.1 ∙ ap₂ (λ (s t : List ℕ). s ++ 10 ∷ t) body same_rest ∙ sym (line_text word _ _ _);
        parted = (subst (AllFree c) split_is (split_free _ _)).1;
        ended = free_body _ _ (λ t. cut_free _ _ _ _ i.1 (subst (λ (l : List ℕ). T (has 10 l)) (sym body) (has_later _ word _ t)));
      }

-- ---- fields that are numbers

-- numbers of at most ten digits
abbrev pub AllSmall : List ℕ → Type 0
AllSmall [] = Unit {0}
AllSmall (x ∷ xs) = (x < 10 ^ 10) × AllSmall xs

numbers_in_lem : (xs : List ℕ) → AllSmall xs → numbers_in (length xs) (map digits xs) ≡ some xs
unfolding numbers_in
numbers_in_lem [] a = refl
numbers_in_lem (x ∷ xs) a =
    rw (T_true (is_number (digits x)) (digits_number _ a.0), numbers_in_lem xs a.1) (ap (λ (v : ℕ). some (v ∷ xs)) (value_digits _))

-- what is known of the numbers xs that as many fields say
pub record AreNumbers (count : ℕ) (fs : List (List ℕ)) (xs : List ℕ) : Type 0 where
  pub fields : fs ≡ map digits xs
  pub small : AllSmall xs
  pub counted : length xs ≡ count

of_numbers_in : (count : ℕ) (fs : List (List ℕ)) (xs : List ℕ) → numbers_in count fs ≡ some xs → AreNumbers count fs xs
unfolding numbers_in
of_numbers_in zero [] xs e =
    let i : ◌≡◌ {A = List ℕ} [] xs = cc in subst (AreNumbers zero []) i (record { fields = refl; small = tt; counted = refl })
of_numbers_in zero (f ∷ fs) xs e = no_value e
of_numbers_in (suc count) [] xs e = no_value e
of_numbers_in (suc count) (f ∷ fs) xs e = at (is_number f) refl e (of_numbers_in count fs)
  where
    at : (b : Bool) → is_number f ≡ b → (if b then Option.map (λ xs. value_of f ∷ xs) (numbers_in count fs) else missing) ≡ some xs
        → ((xs : List ℕ) → numbers_in count fs ≡ some xs → AreNumbers count fs xs) → AreNumbers (suc count) (f ∷ fs) xs
    at false h e rec = no_value e
    at true h e rec =
        let j = (map-eq-some_iff (λ (xs : List ℕ). value_of f ∷ xs) _).0 e in
        let r = rec j.0 j.1 in
        let t = true_T _ h in
        subst (AreNumbers (suc count) (f ∷ fs)) j.2
        (record {
          fields = ap₂ (λ (g : List ℕ) (gs : List (List ℕ)). g ∷ gs) (sym (digits_value _ t)) r.fields;
          small = (value_below _ t, r.small);
          counted = ap suc r.counted;
        })

-- no digit is a byte below 48, as a comma, a space or a line feed
digits_free : (c n : ℕ) → c < 48 → T (has c (digits n)) → ⊥
digits_free c n l h = let b = digit_bounds _ (of_all _ _ (digits_all _) _ h) in omega arith

numbers_free : (c : ℕ) → c < 48 → (xs : List ℕ) → AllFree c (map digits xs)
numbers_free c l [] = tt
numbers_free c l (x ∷ xs) = (digits_free _ _ l, numbers_free c l xs)

-- what stands before the line feed of a line of numbers
abbrev pub number_body : (word : List ℕ) (c : ℕ) → List ℕ → List ℕ
number_body word c xs = word ++ gather (λ f. c ∷ f) (map digits xs)

-- a line of numbers: the same, for numbers of at most ten digits
module _ (word : List ℕ) (c : ℕ) where
  pub numbers_text : (xs rest : List ℕ) → number_line_of word c xs ++ rest ≡ number_body word c xs ++ 10 ∷ rest
  numbers_text xs rest = line_text word c (map digits xs) rest

  pub numbers_whole : (T (has 10 word) → ⊥) → (c ≡ 10 → ⊥) → (xs : List ℕ) → T (has 10 (number_body word c xs)) → ⊥
  numbers_whole w d xs t =
      ⊎_elim w (body_free _ d _ (numbers_free _ (omega arith) xs)) (of_append _ _ _ t)

  pub number_complete : (T (has 10 word) → ⊥) → (c ≡ 10 → ⊥) → c < 48 → (xs : List ℕ) → AllSmall xs
      → (rest : List ℕ) → number_line word c (length xs) (number_line_of word c xs ++ rest) ≡ some (xs, rest)
  unfolding number_line bind
  number_complete w d l xs a rest =
      ap (λ (o : Option (List (List ℕ) × List ℕ)). bind o (λ l. with_rest l.1 (numbers_in (length xs) l.0)))
      (field_complete _ _ w d _ (numbers_free _ l xs) (numbers_free _ (omega arith) xs) _)
      ∙ ap (with_rest rest) (numbers_in_lem _ a)

  pub record IsNumberLine (count : ℕ) (text xs rest : List ℕ) : Type 0 where
    pub small : AllSmall xs
    pub counted : length xs ≡ count
    pub is_text : text ≡ number_line_of word c xs ++ rest

  pub number_sound : (count : ℕ) (text xs rest : List ℕ) → number_line word c count text ≡ some (xs, rest) → IsNumberLine count text xs rest
  unfolding number_line
  number_sound count text xs rest e =
      let i = (bind-eq-some_iff (field_line word c text) (λ l. with_rest l.1 (numbers_in count l.0))).0 e in
      let l = i.0 in
      let j = (map-eq-some_iff {B = List ℕ × List ℕ} (λ xs. (xs, l.1)) (numbers_in count l.0)).0 i.2 in
      let same_numbers : j.0 ≡ xs = ap (λ (q : List ℕ × List ℕ). q.0) j.2 in
      let same_rest : l.1 ≡ rest = ap (λ (q : List ℕ × List ℕ). q.1) j.2 in
      let n = of_numbers_in _ _ _ (j.1 ∙ ap some same_numbers) in
      record {
        small = n.small;
        counted = n.counted;
        is_text =
            (field_sound _ _ _ _ _ i.1).is_text
            ∙ ap₂ (λ (fs : List (List ℕ)) (t : List ℕ). field_line_of word c fs ++ t) n.fields same_rest;
      }

  -- of two numbers
  pub length_two : (x y : ℕ) → length (number_line_of word c (x ∷ y ∷ [])) ≡ length word + length (digits x) + length (digits y) + 3
  length_two x y = simp length-append (omega arith)

  pub two_complete : (T (has 10 word) → ⊥) → (c ≡ 10 → ⊥) → c < 48 → (x y : ℕ) → x < 10 ^ 10 → y < 10 ^ 10
      → (rest : List ℕ) → two_line word c (number_line_of word c (x ∷ y ∷ []) ++ rest) ≡ some (x, y, rest)
  unfolding two_line
  two_complete w d l x y hx hy rest =
      ap (λ (o : Option (List ℕ × List ℕ)). Option.map (λ l. (get_or l.0 0 0, get_or l.0 1 0, l.1)) o)
      (number_complete w d l (x ∷ y ∷ []) (hx, (hy, tt)) _)

  pub record IsTwoLine (text : List ℕ) (x y : ℕ) (rest : List ℕ) : Type 0 where
    pub small_x : x < 10 ^ 10
    pub small_y : y < 10 ^ 10
    pub is_text : text ≡ number_line_of word c (x ∷ y ∷ []) ++ rest

  pub two_sound : (text : List ℕ) (x y : ℕ) (rest : List ℕ) → two_line word c text ≡ some (x, y, rest) → IsTwoLine text x y rest
  unfolding two_line
  two_sound text x y rest e =
      let two : List ℕ × List ℕ → ℕ × ℕ × List ℕ = λ l. (get_or l.0 0 0, get_or l.0 1 0, l.1) in
      let i = (map-eq-some_iff two (number_line word c 2 text)).0 e in
      let l = i.0 in
      let n = number_sound _ _ _ _ i.1 in
      at l.0 _ i.2 n.counted n.small n.is_text
    where
      at : (xs r : List ℕ) → ◌≡◌ {A = ℕ × ℕ × List ℕ} (get_or xs 0 0, get_or xs 1 0, r) (x, y, rest) → length xs ≡ 2
          → AllSmall xs → text ≡ number_line_of word c xs ++ r → IsTwoLine text x y rest
      at [] r e k a t = absurd (omega arith)
      at (u ∷ []) r e k a t = absurd (omega arith)
      at (u ∷ v ∷ []) r e k a t =
          let P : ℕ × ℕ × List ℕ → Type 0 = λ z. IsTwoLine text z.0 z.1 z.2 in
          subst P e (record { small_x = a.0; small_y = a.1.0; is_text = t })
      at (u ∷ v ∷ w ∷ xs) r e k a t = absurd (omega arith)

-- ---- the line of a letter and two numbers, parted by commas

pub length_line : (letter x y : ℕ) → length (line_of letter x y) ≡ length (digits x) + length (digits y) + 4
unfolding line_of
length_line letter x y = length_two (letter ∷ []) 44 x y ∙ omega arith

pub line_complete : (letter : ℕ) → 44 < letter → (x y : ℕ) → x < 10 ^ 10 → y < 10 ^ 10
    → (rest : List ℕ) → line letter (line_of letter x y ++ rest) ≡ some (x, y, rest)
unfolding line line_of
line_complete letter after x y hx hy rest =
    two_complete (letter ∷ []) 44 (λ t. let e = of_single 10 letter t in omega arith) (λ e. omega arith) (omega arith) x y hx hy rest

pub line_sound : (letter : ℕ) (text : List ℕ) (x y : ℕ) (rest : List ℕ) → line letter text ≡ some (x, y, rest)
    → IsTwoLine (letter ∷ []) 44 text x y rest
unfolding line
line_sound letter = two_sound (letter ∷ []) 44
