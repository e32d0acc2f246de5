-- The tests made one after the other are together the test for a survey.
-- Assumes nothing.
use mathlib.Core.Path.{◌≡◌}
use mathlib.Core.Bool.{Bool, true, false, ◌&&◌}
use mathlib.Core.List.{List}
use Prim.Native.Nat.{ℕ, ◌+◌, ◌/◌, ◌%◌, ◌≤◌, ◌<◌}
use native.Mathlib.Omega.{arith}
use lib.Dec.{eqb, leb, eqb→eq, leb→le, le→leb}
use lib.ListN.{length, get_or}
use Rattle.model.specs.Basics.{up_to, all}
use Rattle.model.specs.Survey.{is_survey, IsSurvey}
use Rattle.model.proofs.Tests.{and_l, and_r, and_i, eq_T, T_true, true_T, no_false, false_no}
use Rattle.model.proofs.Lists.{of_all, all_of, has_up_to, of_up_to}
use Rattle.model.proofs.Acceptance.{survey_facts, survey_test}
use Rattle.survey_neighbours.specs.Rows.{Rows}

-- the starts begin at 0 and never fall
abbrev pub rises : List ℕ → ℕ → Bool
rises starts v = leb (get_or starts v 0) (get_or starts (v + 1) 0)

abbrev pub starts_rise : ℕ → List ℕ → Bool
starts_rise n starts = eqb (get_or starts 0 0) 0 && all (rises starts) (up_to n)

-- ---- the test for a survey, by facts

pub holds : {n : ℕ} {starts neighbours : List ℕ} → IsSurvey n starts neighbours → is_survey n starts neighbours ≡ true
holds {n} {starts} {neighbours} s = T_true (is_survey n starts neighbours) (survey_test n starts neighbours s)

-- where a fact of a survey fails, the test does
module _ (n : ℕ) (starts neighbours : List ℕ) where
  pub fails : {A : Type 0} → (IsSurvey n starts neighbours → A) → (A → ⊥) → is_survey n starts neighbours ≡ false
  fails f d = no_false (is_survey n starts neighbours) (λ t. d (f (survey_facts n starts neighbours t)))

  pub not_rising : starts_rise n starts ≡ false → is_survey n starts neighbours ≡ false
  not_rising e =
      fails (λ s. and_i (eqb (get_or starts 0 0) 0) (all (rises starts) (up_to n)) (eq_T (get_or starts 0 0) 0 s.first)
      (all_of (rises starts) (up_to n) (λ v m. le→leb (get_or starts v 0) (get_or starts (v + 1) 0) (s.rising v (of_up_to n v m)))))
      (false_no (starts_rise n starts) e)

  pub not_even : (get_or starts n 0 % 2 ≡ 0 → ⊥) → is_survey n starts neighbours ≡ false
  not_even = fails (λ s. s.even)

  pub not_few : 16384 < get_or starts n 0 / 2 → is_survey n starts neighbours ≡ false
  not_few h = fails (λ s. s.few_links) (λ l. omega arith)

  pub not_within : length neighbours < get_or starts n 0 → is_survey n starts neighbours ≡ false
  not_within h = fails (λ s. s.within) (λ l. omega arith)

-- ---- where these facts hold, the rows can be read

pub rows : {n : ℕ} {starts neighbours : List ℕ} → n ≤ 1024 → n + 1 ≤ length starts → starts_rise n starts ≡ true
    → get_or starts n 0 ≤ length neighbours → Rows n starts neighbours
rows {n} {starts} few room rise within =
    let first = eqb (get_or starts 0 0) 0 in
    let rising = all (rises starts) (up_to n) in
    let t = true_T (first && rising) rise in
    record {
      few = few;
      room = room;
      first = eqb→eq (get_or starts 0 0) 0 (and_l first rising t);
      rising = λ v h. leb→le (get_or starts v 0) (get_or starts (v + 1) 0)
          (of_all (rises starts) (up_to n) (and_r first rising t) v (has_up_to n v h));
      within = within;
    }
