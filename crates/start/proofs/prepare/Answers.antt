use Rattle.tables.specs.Lists.{lists_of, stale, coded}
use Rattle.std.proofs.Common.{replicate}
use Rattle.start.specs.Leaves.{weighed_in, stale_filled}
use mathlib.Core.List.{List}
use lib.ListN.{length}
use mathlib.Core.Path.{ap, ◌∙◌}
use Rattle.start.proofs.prepare.Goals as goal

pub returns : goal.returns
returns c =
    let a = c.args in
    let s = a.scoring.now in
    let t = a.tables.now in
    ap (λ (l : List _). lists_of c.put_sets.new.sets c.copy.new.to l c.put_live.new.live.items (coded (replicate 256 stale))) c.weigh_all.ensures
    ∙ (λ i. weighed_in s.width s.weights.now (length a.leaves.now) (lists_of (c.put_sets.ensures i) (c.copy.ensures i) t.sizes (c.put_live.ensures i) (stale_filled t.rows t.slots i)))
