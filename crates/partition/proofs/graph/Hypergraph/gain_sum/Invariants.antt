use Rattle.partition.specs.Layout.{gain_step}
use Rattle.slots.specs.Slots.{held}
use Rattle.spec.specs.Hypergraph.{fold_over}
use Rattle.spec.specs.Lists.{keep, range}
use Rattle.spec.specs.Floats.{zero_float}
use Prim.Native.Nat.{◌*◌, ◌≤◌}
use mathlib.Core.Path.{◌≡◌}
use Rattle.partition.proofs.graph.Hypergraph.gain_sum.Given as goal

abbrev pub invariant-loop-k : goal.invariant-loop-k
invariant-loop-k l = (l.k ≤ 4) × (l.g ≡ fold_over (gain_step l.self.words.now l.self.place.nets l.here l.there l.self.weights.now) (keep (held l.self.words.now 4 l.s) (range (l.k * 64))) zero_float)
