use Rattle.slicing.specs.Best.{cost_fits}
use native.Mathlib.Omega.{arith}
use Prim.Native.Nat.{◌-◌}
use Rattle.slicing.proofs.ranks.cost_of.Goals as goal

pub overflow_add-result : goal.overflow_add-result
overflow_add-result c = record { fits = omega (arith, cost_fits c.args.weight (c.args.total - c.args.touching) (omega arith) (omega arith)) }
