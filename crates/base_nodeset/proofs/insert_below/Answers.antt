use mathlib.Core.Path.{◌≡◌, ◌∙◌}
use Prim.Native.Nat.{◌-◌, ◌/◌, ◌^◌}
use native.Mathlib.Omega.{arith}
use lib.ListN.{replicate}
use lib.Seq.{length-take-le}
use Rattle.base_nodeset.proofs.Words.{below_words, below_last, below_all}
use Rattle.base_nodeset.proofs.insert_below.Goals.{After-fill}
use Rattle.base_nodeset.proofs.insert_below.Goals as goal

filled : (c : After-fill) → c.fill.new.self ≡ replicate (c.args.n / 64) (2 ^ 64 - 1)
filled c = c.fill.ensures.after (λ y same. same) ∙ rw (length-take-le (c.args.n / 64) c.args.words.now (omega arith))

pub returns-then-k-ne0 : goal.returns-then-k-ne0
returns-then-k-ne0 c =
    let full = filled (goal.at.returns-then-k-ne0 c).After-fill in
    rw full (below_last c.args.n c.requires.1 (below_words (c.args.n / 64) (omega arith) c.requires.0) c.if-k-ne0.true).says

pub returns-else-k-ne0 : goal.returns-else-k-ne0
returns-else-k-ne0 c =
    let full = filled (goal.at.returns-else-k-ne0 c).After-fill in
    rw full (below_all c.args.n c.requires.1 (below_words (c.args.n / 64) (omega arith) c.requires.0) c.if-k-ne0.false).says
