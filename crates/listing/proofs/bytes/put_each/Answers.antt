use native.Mathlib.Omega.{arith}
use Rattle.std.proofs.Common.{◌∙◌}
use Rattle.listing.specs.Bytes.{each_none, each_next}
use Rattle.listing.proofs.bytes.put_each.Goals as goal

pub loop-k-init : goal.loop-k-init
loop-k-init c = each_none c.args.out.now c.args.list.now c.args.at

pub loop-k-preserved : goal.loop-k-preserved
loop-k-preserved c =
    let l = c.loop-k in
    c.put_two.ensures ∙ each_next c.args.out.now c.args.list.now c.args.at l.k (omega arith) l.invariant
