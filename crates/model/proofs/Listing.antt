-- The listing of a survey has a line for each pair a < b, in order, with an allowed report, by any threshold.
-- Assumes nothing.
use mathlib.Core.Path.{◌≡◌, sym, ap, ◌∙◌, subst}
use mathlib.Core.Logic.{◌↔◌}
use mathlib.Core.List.{List, ◌++◌}
use Prim.Native.Nat.{ℕ, ◌+◌, ◌*◌, ◌≤◌, ◌<◌}
use native.Mathlib.Omega.{arith}
use lib.Dec.{T, ltb}
use lib.ListN.{length}
use Rattle.model.specs.declared.Route.TheVariants.{NoRoute, Link}
use Rattle.model.specs.declared.Answer.{Answer}
use Rattle.model.specs.Answers.{Outcome, refused, answered}
use Rattle.model.specs.Basics.{none, up_to, keep, gather}
use Rattle.model.specs.SurveyText.{line_of, ordered}
use Rattle.model.specs.Survey.{Graph, IsGraph}
use Rattle.model.specs.Graph.{linked}
use Rattle.model.specs.Threshold.{in_force}
use Rattle.model.specs.Hubs.{hubs}
use Rattle.model.specs.Tables.{entry_at, full_table, low_table, report_table, AreBuilt}
use Rattle.model.specs.Pair.{with_route, taken, pair}
use Rattle.model.specs.Reading.{Parsed, parse, graph_of}
use Rattle.model.specs.Listing.{pair_line, pairs_below, pair_lines, listing_of, listing_text, listing}
use Rattle.model.specs.Demand.{RightListing}
use Rattle.model.proofs.Lists.{has_keep, of_keep, has_up_to, of_up_to, gather_same, gather_gather, gather_map}
use Rattle.model.proofs.Entries.{table_front}
use Rattle.model.proofs.Allowance.{allowed, report_one}
use Rattle.model.proofs.BuiltWalks.{report_at, pair_linked, pair_built, taken_right}
use Rattle.model.proofs.Links.{parse_sound}
use Rattle.model.proofs.Totals.{named_sym}

-- the tables that the rules give are the ones built
pub rules_built : (n s : ℕ) (G : Graph) → AreBuilt n s G (full_table n s G) (low_table n s G) (report_table n s G)
unfolding full_table low_table report_table
rules_built n s G = record { full_front = table_front _ _; low_front = table_front _ _; report_front = table_front _ _ }

-- links name a graph
pub links_graph : (n : ℕ) (ls : List (ℕ × ℕ)) → IsGraph n (graph_of n ls)
unfolding graph_of
links_graph n ls = record {
  below = λ v x h m. of_up_to _ _ (of_keep _ _ _ m).0;
  symmetric =
      λ v x h m. has_keep _ _ _ (has_up_to _ _ h) (subst T (named_sym _ _ _) (of_keep _ _ _ m).1);
}

-- the pairs below n, ordered by their first node
pub by_pairs : {B : Type 0} (f : ℕ × ℕ → List B) (n : ℕ)
    → gather f (pairs_below n) ≡ gather (λ a. gather (λ b. f (a, b)) (keep (λ b. ltb a b) (up_to n))) (up_to n)
unfolding pairs_below ordered
by_pairs f n =
    gather_gather _ _ _
    ∙ gather_same _ _ _ (λ a m. gather_map _ _ _)

-- the value of an answer
unfoldable pub value_in : Outcome Answer → Answer
value_in (refused k) = with_route none NoRoute
value_in (answered x) = x

-- by any threshold
module _ {n : ℕ} {G : Graph} (g : IsGraph n G) (size : n ≤ 1024) (s : ℕ) where
  reply : ℕ → ℕ → Outcome Answer
  reply a b = pair n (full_table n s G) (low_table n s G) (report_table n s G) a b

  reply_is : (a b : ℕ) → a < n → b < n
      → (reply a b ≡ answered (value_in (reply a b))) × ((value_in (reply a b)).report ≡ entry_at n (report_table n s G) a b)
  unfolding reply pair value_in
  reply_is a b ha hb =
      let own = rules_built n s G in
      let i = pair_built g size own ha hb (taken n (full_table n s G) a b) (taken_right g size own ha hb) in (
        i.1 ∙ ap answered (sym (ap value_in i.1)),
        ap (λ (o : Outcome Answer). (value_in o).report) i.1 ∙ report_at g size own ha hb,
      )

  -- linked nodes that differ, and no others, have the report 1 by link
  by_link_iff : (a b : ℕ) → a < n → b < n → (a ≡ b → ⊥) → (value_in (reply a b) ≡ with_route 1 Link) ↔ T (linked n G a b)
  unfolding reply pair value_in
  by_link_iff a b ha hb d = (
    λ e. report_one s g ha hb (sym (reply_is a b ha hb).1 ∙ ap (λ (y : Answer). y.report) e),
    λ t. ap value_in (pair_linked g size (rules_built n s G) ha hb (taken n (full_table n s G) a b) d t),
  )

  pub listing_right : RightListing n (length (hubs n s G)) (linked n G) (listing_of n s G)
  unfolding listing_of pair_lines reply
  listing_right = record {
    value = λ a b. value_in (reply a b);
    lines = ap (λ (l : List ℕ). line_of 82 n (length (hubs n s G)) ++ l) (
        by_pairs _ _
        ∙ gather_same _ _ _ (λ a ma. gather_same _ _ _ (λ b mb.
        ap (pair_line (a, b)) (reply_is _ _ (of_up_to _ _ ma) (of_up_to _ _ (of_keep _ _ _ mb).0)).0))
        ∙ sym (by_pairs _ _)
        );
    allowed = λ a b ha hb. rw (reply_is _ _ ha hb).1 (allowed _ _ _ g size _ _ ha hb);
    by_link_iff = by_link_iff;
  }

-- of a text that is read within the listing's limits
pub listing_lines : (text : List ℕ) (x : Parsed) → parse 128 2048 (128 + 1) (2 * 2048) text ≡ answered x
    → RightListing x.nodes (length (hubs x.nodes (in_force x.nodes 0) (graph_of x.nodes x.links)))
    (linked x.nodes (graph_of x.nodes x.links)) (listing text)
unfolding listing listing_text
listing_lines text x e =
    let size : x.nodes ≤ 1024 = omega (arith, (parse_sound 128 2048 (128 + 1) (2 * 2048) text x e).within.size) in
    rw e (listing_right (links_graph _ _) size _)
