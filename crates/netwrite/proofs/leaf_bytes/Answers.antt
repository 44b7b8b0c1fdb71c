use borrow.Author.Rules.{rules}
use Rattle.netwrite.specs.Sizes.{summed_none, summed_next}
use native.Mathlib.Omega.{arith}
use mathlib.Core.Path.{◌≡◌}
use lib.ListN.{get_or}
use Rattle.netwrite.proofs.leaf_bytes.Goals as goal

pub loop-count-init : goal.loop-count-init
loop-count-init c = summed_none _

pub loop-count-preserved : goal.loop-count-preserved
loop-count-preserved c = let i = c.loop-count.count-index in
    let e : c.from.result ≡ get_or c.args.counts.now i 0 = search rules in
    summed_next c.from.result e c.requires c.loop-count.invariant (omega arith)
