use mathlib.Core.Path.{◌≡◌, ap, ◌∙◌}
use mathlib.Core.List.{List}
use Prim.Native.Nat.{ℕ}
use native.Mathlib.Omega.{arith}
use lib.ListN.{length, replicate}
use borrow.Author.Rules.{rules}
use Rattle.model.specs.Basics.{none}
use Rattle.base_nodeset.specs.NodeSet.{member}
use Rattle.search_one_source.proofs.AllowedNodes.{closed_below, closed_few, open_is, open_count, search_allowed}
use Rattle.search_one_source.proofs.search.Goals as goal

pub write_members-requires : goal.write_members-requires
write_members-requires c =
    let closed = rw c.insert_below.ensures at c.subtract.ensures in
    (search rules, λ v t. omega (arith, closed_below (member c.args.allowed.now) closed v t, c.requires.2, c.fill.ensures.len))

pub overflow_sub-count : goal.overflow_sub-count
overflow_sub-count c =
    let closed = rw c.insert_below.ensures at c.subtract.ensures in
    closed_few (member c.args.allowed.now) closed c.args.survey.now.accepted.size (search rules) c.count.ensures

pub search_open-requires-clause-source_lt_n : goal.search_open-requires-clause-source_lt_n
search_open-requires-clause-source_lt_n c =
    let row : List ℕ = c.write_members.new.list in
    let long : length row ≡ c.args.survey.now.n = search rules in
    let closed = rw c.insert_below.ensures at c.subtract.ensures in
    let filled = c.fill.ensures.after (λ y e. e) ∙ ap (λ (k : ℕ). replicate k none) c.requires.2 in
    let opened = open_is (member c.args.allowed.now) closed row filled long c.write_members.ensures in
    let counted = open_count (member c.args.allowed.now) closed row filled long c.write_members.ensures
    c.args.survey.now.accepted.size (search rules) c.count.ensures in
    (c.requires.0, rw (opened _ c.requires.0) c.requires.1, counted)

pub write_members-requires-2 : goal.write_members-requires-2
write_members-requires-2 c =
    let closed = rw c.insert_below.ensures at c.subtract.ensures in
    (search rules, λ v t. omega (arith, closed_below (member c.args.allowed.now) closed v t, c.requires.2))

pub returns : goal.returns
returns c =
    let row : List ℕ = c.write_members.new.list in
    let long : length row ≡ c.args.survey.now.n = search rules in
    let closed = rw c.insert_below.ensures at c.subtract.ensures in
    let filled = c.fill.ensures.after (λ y e. e) ∙ ap (λ (k : ℕ). replicate k none) c.requires.2 in
    search_allowed (member c.args.allowed.now) closed row filled long c.write_members.ensures _ c.requires.0 c.requires.1
    _ c.search_open.ensures (search rules) c.write_members-2.ensures
