use Rattle.std.proofs.Common.{rules, tests, arith, ◌∙◌, ◌≤◌, ◌*◌, length}
use Rattle.std.proofs.lemmas.Iterator.{YieldsList-from_slice, YieldsList-from_map}
use Rattle.std.proofs.lemmas.Iterator.Consumers.{sum_by_from_yields_List, fits_by_from_yields_list}
use Rattle.std.specs.List.{sum_by}
use lib.Count.{ones}
use Rattle.base_nodeset.proofs.Words.{total_few, total_is}
use Rattle.base_nodeset.proofs.count.Goals as goal

pub sum-requires-clause-fits : goal.sum-requires-clause-fits
sum-requires-clause-fits c =
    let few : sum_by ones c.args.words.now ≤ 64 * length c.args.words.now = total_few _ (λ k. (c.type_inv.words k).fits) in
    fits_by_from_yields_list ones c.args.words.now c.map.result _
    (YieldsList-from_map _ ones (YieldsList-from_slice c.args.words.now cc) c.map.ensures.closure (λ x r q k. search (rules, tests))) (omega arith)

pub returns : goal.returns
returns c =
    sum_by_from_yields_List ones c.args.words.now c.map.result _ c.sum.ensures.ran
    (YieldsList-from_map _ ones (YieldsList-from_slice c.args.words.now cc) c.map.ensures.closure (λ x r q k. search (rules, tests)))
    ∙ total_is _ (λ k. (c.type_inv.words k).fits)
