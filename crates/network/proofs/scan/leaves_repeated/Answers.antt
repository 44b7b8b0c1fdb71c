use Rattle.network.specs.Checks.{leaves_next, leaves_found, leaves_end}
use native.Mathlib.Omega.{arith}
use Rattle.network.proofs.scan.leaves_repeated.Goals as goal

pub returns-then-repeated : goal.returns-then-repeated
returns-then-repeated c = leaves_found c.requires c.loop-i.invariant (omega arith) c.leaf.ensures c.repeated.ensures c.if-repeated.true

pub loop-i-preserved : goal.loop-i-preserved
loop-i-preserved c = leaves_next c.requires c.loop-i.invariant (omega arith) c.leaf.ensures c.repeated.ensures c.if-repeated.false

pub returns : goal.returns
returns c = leaves_end c.requires c.loop-i.invariant (omega arith)
