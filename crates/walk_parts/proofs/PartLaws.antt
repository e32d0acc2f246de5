-- A whole part of a walk: its length, and the rows and columns of the tables that it goes by.
-- Assumes nothing.
use mathlib.Core.Path.{◌≡◌, refl, sym, ap, ◌∙◌, subst}
use mathlib.Core.Bool.{true, false}
use mathlib.Core.List.{List}
use mathlib.Core.Option.{Option, none as missing, some}
use Prim.Native.Nat.{ℕ, ◌+◌, ◌-◌, ◌*◌, ◌≤◌, ◌<◌}
use native.Mathlib.Nat.{mul-one}
use native.Mathlib.Numerals.{add-one}
use native.Mathlib.Omega.{arith}
use borrow.Author.Tests.{lt-ltb}
use lib.Dec.{ltb}
use lib.ListN.{length, get_or, take, drop, length-drop}
use lib.Seq.{take_all, get_or-drop}
use Rattle.std.specs.Prelude.{None, Some, Option as Count}
use Rattle.model.specs.Graph.{Edges, linked}
use Rattle.model.specs.Tables.{entry_at}
use Rattle.model.specs.Walk.{steps}
use Rattle.model.proofs.Walks.{Sound, steps_sound, steps_same, too_long}
use Rattle.base_nodeset.specs.NodeSet.{Nodes, member}
use Rattle.survey_neighbours.specs.SurveyGraph.{graph}
use Rattle.walk_parts.specs.declared.Part.{Part}
use Rattle.walk_parts.specs.Found.{is_found, Leaves, count_of, PartIs}
use Rattle.walk_parts.specs.Parts.{left_in, steps_in}

-- ---- how many nodes a part has

no_part : {n : ℕ} {o : Option (List ℕ)} {old new : List ℕ} → o ≡ missing → PartIs n o None old new
no_part {old = old} {new = new} e = record {
  counted = sym (ap count_of e);
  some_few = tt;
  left = subst (λ (o : Option (List ℕ)). Leaves o old new) (sym e) tt;
}

not_given : {o : Option (List ℕ)} → false ≡ is_found o → o ≡ missing
not_given {o = missing} e = refl
not_given {o = some l} e = cc

all_given : {n d : ℕ} {o : Option (List ℕ)} {old new : List ℕ} (E : Edges) (v goal : ℕ) → Sound E d v goal o → d < n
    → true ≡ is_found o → Leaves o old new → PartIs n o (Some (d + 1)) old new
all_given {o = missing} E v goal s h e w = cc
all_given {d = d} {o = some l} E v goal s h e w = record {
  counted = ap Some (add-one _ ∙ sym s.1);
  some_few = (omega arith, omega arith);
  left = w;
}

-- the part of d links from v, where d is what the table says
module _ (part : Part) {v d : ℕ} (h : v < part.survey.n) (e : d ≡ left_in part v) (old new : List ℕ) where
  abbrev pub Written : Count ℕ → Type 0
  Written count = PartIs part.survey.n (steps_in part (left_in part v) v) count old new

  pub part_long : part.survey.n ≤ d → Written None
  unfolding steps_in
  part_long l =
      no_part (too_long part.survey.n _ part.survey.accepted.lists.graph _ _ part.goal _ v h
      (omega (arith, part.survey.accepted.size)) (rw e at l))

  pub part_missed : false ≡ is_found (steps_in part d v) → Written None
  part_missed f = no_part (not_given (rw e at f))

  pub part_given : d < part.survey.n → true ≡ is_found (steps_in part d v) → Leaves (steps_in part d v) old new → Written (Some (d + 1))
  unfolding steps_in
  part_given l f w =
      subst (λ (k : ℕ). PartIs part.survey.n (steps (graph part.survey) (member part.allowed.now) (left_in part) part.goal k v) (Some (d + 1)) old new) e
      (all_given (linked part.survey.n (graph part.survey)) v part.goal
      (steps_sound part.survey.n _ part.survey.accepted.lists.graph _ _ part.goal d v h) l f w)

-- ---- the columns of Low, and the rows of Full

-- a part of a table from a place on, as the code hands it on
abbrev from : ℕ → List ℕ → List ℕ
from i table = take (length table - i) (drop i table)

behind : (i : ℕ) (l : List ℕ) → from i l ≡ drop i l
behind i l = take_all (length l - i) (drop i l) (omega (arith, length-drop i l))

-- the links left are the entries of the table
pub column_left : (n : ℕ) (table : List ℕ) (i x : ℕ) → get_or (from i table) (x * n) 0 ≡ entry_at n table x i
unfolding entry_at
column_left n table i x =
    let e : i + x * n ≡ x * n + i = omega arith in
    rw (behind i table) (get_or-drop i table (x * n) 0 ∙ ap (λ (k : ℕ). get_or table k 0) e)

pub row_left : (n : ℕ) (table : List ℕ) (i x : ℕ) → get_or (from (i * n) table) (x * 1) 0 ≡ entry_at n table i x
unfolding entry_at
row_left n table i x = rw (behind (i * n) table, mul-one) (get_or-drop (i * n) table x 0)

-- a part is that by a test and by entries that agree with its nodes and with its table on nodes below n
pub part_by : (part : Part) {m v : ℕ} {count : Count ℕ} {old new : List ℕ} → PartIs m (steps_in part (left_in part v) v) count old new
    → v < part.survey.n → (may : Nodes) (left : ℕ → ℕ) → ((x : ℕ) → x < part.survey.n → member part.allowed.now x ≡ may x)
    → ((x : ℕ) → left_in part x ≡ left x) → PartIs m (steps (graph part.survey) may left part.goal (left v) v) count old new
unfolding steps_in
part_by part {m} {v} {count} {old} {new} p h may left e f =
    let same = steps_same part.survey.n _ part.survey.accepted.lists.graph (member part.allowed.now) may (left_in part) left
    part.goal e (λ x l. f x) (left_in part v) v h in
    subst (λ (d : ℕ). PartIs m (steps (graph part.survey) may left part.goal d v) count old new) (f v) (rw same at p)

-- every node below n is in their set
pub all_in : (n : ℕ) {may : Nodes} → may ≡ (λ v. ltb v n) → (x : ℕ) → x < n → may x ≡ true
all_in n q x h = ap (λ (f : Nodes). f x) q ∙ lt-ltb x n h
