use Rattle.reconfigure.specs.Tally.{dangling_of_lem}
use Rattle.reconfigure.specs.Improves.{dangling_in}
use native.Mathlib.Omega.{arith}
use mathlib.Core.Path.{◌∙◌}
use lib.ListN.{length}
use Rattle.reconfigure.proofs.dangling.is_dangling.Goals as goal

pub dangling-requires : goal.dangling-requires
dangling-requires c = let n = c.args.network.now in let d = dangling_in n n.holds in (d.0, d.1, omega arith, d.3)

pub returns : goal.returns
returns c = let n = c.args.network.now in
    c.dangling.ensures ∙ dangling_of_lem (length n.weights.now) (length n.leg_counts.now) (length n.outputs.now) n.weights.now n.leg_counts.now n.legs.now n.outputs.now
