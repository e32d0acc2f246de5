use mathlib.Core.Path.{◌≡◌, ◌∙◌, ap}
use mathlib.Core.List.{reverse}
use lib.ListN.{length-reverse}
use Rattle.base_lists.proofs.Written.{wrote_front}
use Rattle.base_lists.proofs.copy_reversed.Goals as goal

pub returns : goal.returns
returns g c =
    let turned : c.reverse.new.self ≡ reverse c.args.from.now = c.reverse.ensures.after ∙ ap reverse c.copy_from_slice.ensures.after in
    rw (turned, ← length-reverse c.args.from.now) (wrote_front (reverse c.args.from.now) c.args.list.now)
