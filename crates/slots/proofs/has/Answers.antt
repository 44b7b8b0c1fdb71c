use lib.Dec.{eqb}
use Prim.Native.Nat.{◌/◌, ◌%◌, ◌^◌, ℕ}
use Rattle.bits.specs.Bit.{bit}
use Rattle.slots.specs.Slots.{held}
use mathlib.Core.Path.{ap}
use Rattle.slots.proofs.has.Goals as goal

pub returns : goal.returns
unfolding held bit
returns c = ap (λ (x : ℕ). eqb (x / 2 ^ (c.args.i % 64) % 2) 1) c.get_or-x.ensures
