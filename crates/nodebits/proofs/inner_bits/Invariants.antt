use Rattle.nodebits.specs.Stepped.{Stepped}
use Prim.Native.Nat.{◌≤◌}
use lib.ListN.{length}
use Rattle.nodebits.proofs.inner_bits.Given as goal

abbrev pub invariant-loop-node : goal.invariant-loop-node
invariant-loop-node l = (l.node-index ≤ length l.order) × Stepped l.w l.n l.kids l.order l.sets l.effective l.initial.sizes l.initial.works l.node-index l.sizes l.works
