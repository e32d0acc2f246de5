-- The tables, and the hub list that goes with them.
-- Assumes nothing.
use Rattle.std.specs.Prelude.{◌≡◌, Bool, ◌&&◌, ◌||◌, ℕ, ◌+◌, ◌-◌, ◌*◌, min, eqb, ltb, length, get_or, take, replicate}
use mathlib.Core.List.{List, ◌++◌, map, foldr}
use Rattle.model.specs.Basics.{none, up_to, has, gather}
use Rattle.std.specs.Prelude.{if◌then◌else◌}
use Rattle.model.specs.Graph.{Edges, between, fewest, linked}
use Rattle.model.specs.Survey.{Graph}
use Rattle.model.specs.Hubs.{is_low, hubs}

-- the rows f a of some nodes a, of n entries each, one after the other (rule 5.1)
unfoldable pub rows_of : ℕ → (ℕ → ℕ → ℕ) → List ℕ → List ℕ
rows_of n f list = gather (λ a. map (f a) (up_to n)) list

-- rule 5.1: f a b for all nodes a and b, row by row
unfoldable pub table : ℕ → (ℕ → ℕ → ℕ) → List ℕ
table n f = rows_of n f (up_to n)

-- rule 5.1: the entry (a, b) of a table. Outside the table it reads 0 (docs/DECISIONS.md, 2)
unfoldable pub entry_at : ℕ → List ℕ → ℕ → ℕ → ℕ
entry_at n t a b = get_or t (a * n + b) 0

-- one of the three tables, of these lengths, is shorter than n × n (rules 10.7 to 10.9)
abbrev pub short_tables : ℕ → (full low report : ℕ) → Bool
short_tables n full low report = ltb full (n * n) || ltb low (n * n) || ltb report (n * n)

-- rule 5.2: an entry of Full, a distance from the dominating set, for the hubs hs
abbrev pub full_entry : ℕ → Graph → (hs : List ℕ) → ℕ → ℕ → ℕ
full_entry n G hs h b = if has h hs then fewest (linked n G) n h b else none

-- the table of these entries (rule 5.2)
abbrev pub full_of : ℕ → Graph → (hs : List ℕ) → List ℕ
full_of n G hs = table n (full_entry n G hs)

-- rule 5.2, with the hubs of rule 4.6
unfoldable pub full_table : ℕ → ℕ → Graph → List ℕ
full_table n s G = full_of n G (hubs n s G)

-- rule 5.3: the links whose two ends are low
unfoldable pub low_links : ℕ → ℕ → Graph → Edges
low_links n s G = between (is_low s G) (linked n G)

-- rule 5.3: an entry of Low, a distance in the subgraph of the low nodes
abbrev pub low_entry : ℕ → ℕ → Graph → ℕ → ℕ → ℕ
low_entry n s G a b = if is_low s G a && is_low s G b then fewest (low_links n s G) n a b else none

-- rule 5.3, for all nodes
unfoldable pub low_table : ℕ → ℕ → Graph → List ℕ
low_table n s G = table n (low_entry n s G)

-- rule 5.4: a sum with a none in it is none
unfoldable pub sum : ℕ → ℕ → ℕ
sum x y = if eqb x none || eqb y none then none else x + y

-- Full(h, a) + Full(h, b): the length of the route from a to b through hub h (rule 5.5)
unfoldable pub via : ℕ → List ℕ → ℕ → ℕ → ℕ → ℕ
via n full a b h = sum (entry_at n full h a) (entry_at n full h b)

-- the least of x and of f h, over all h of a list (rule 5.5)
abbrev pub least : (ℕ → ℕ) → ℕ → List ℕ → ℕ
least f x hs = foldr (λ h y. min (f h) y) x hs

-- rule 5.5: an entry of Report, an estimated distance. With at most 1,024 nodes, every sum of two distances is less than the number none
abbrev pub report_entry : ℕ → Graph → (full low hs : List ℕ) → ℕ → ℕ → ℕ
report_entry n G full low hs a b =
    if eqb a b then 0
    else if linked n G a b then 1
    else least (via n full a b) (entry_at n low a b) hs

-- the table of these entries (rule 5.5)
abbrev pub report_of : ℕ → Graph → (full low hs : List ℕ) → List ℕ
report_of n G full low hs = table n (report_entry n G full low hs)

-- rule 5.5, from the tables of rules 5.2 and 5.3
unfoldable pub report_table : ℕ → ℕ → Graph → List ℕ
report_table n s G = report_of n G (full_table n s G) (low_table n s G) (hubs n s G)

-- rule 4.7: the hubs in the order chosen, then none
unfoldable pub hub_list : ℕ → ℕ → Graph → List ℕ
hub_list n s G = let hs = hubs n s G in hs ++ replicate (n - length hs) none

-- rule 5.6: the first n × n entries are those of rules 5.2 to 5.5
pub record AreBuilt (n s : ℕ) (G : Graph) (full low report : List ℕ) : Type 0 where
  pub full_front : take (n * n) full ≡ full_table n s G
  pub low_front : take (n * n) low ≡ low_table n s G
  pub report_front : take (n * n) report ≡ report_table n s G

-- rule 5.6: and the first n entries of the hub list are those of rule 4.7
pub record AreBuiltWith (n s : ℕ) (G : Graph) (full low report list : List ℕ) : Type 0 where
  pub tables : AreBuilt n s G full low report
  pub hubs_front : take n list ≡ hub_list n s G
