use Rattle.network.specs.Checks.{leaves_next, leaves_found, leaves_end}
use native.Mathlib.Omega.{arith}
use Rattle.network.proofs.scan.leaves_out_of_range.Goals as goal

pub returns-then-out_of_range : goal.returns-then-out_of_range
returns-then-out_of_range c = leaves_found c.requires c.loop-i.invariant (omega arith) c.leaf.ensures c.out_of_range.ensures c.if-out_of_range.true

pub loop-i-preserved : goal.loop-i-preserved
loop-i-preserved c = leaves_next c.requires c.loop-i.invariant (omega arith) c.leaf.ensures c.out_of_range.ensures c.if-out_of_range.false

pub returns : goal.returns
returns c = leaves_end c.requires c.loop-i.invariant (omega arith)
