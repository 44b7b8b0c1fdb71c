use Rattle.slots.specs.Weigh.{open_weight}
use Rattle.spec.specs.Lists.{sum_of}
use lib.ListN.{take}
use mathlib.Core.List.{[]}
use Prim.Native.Nat.{◌*◌, ◌≤◌}
use mathlib.Core.Path.{◌≡◌}
use Rattle.nodebits.proofs.leaf_size.Given as goal

abbrev pub invariant-loop-leg : goal.invariant-loop-leg
invariant-loop-leg l = (l.sum ≡ sum_of (open_weight l.effective []) (take l.leg-index l.leaf)) × (l.sum ≤ l.leg-index * 8)
