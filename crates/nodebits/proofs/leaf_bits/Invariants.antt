use lib.ListN.{length}
use Rattle.nodebits.specs.Loops.{put_to}
use Rattle.nodebits.specs.Bits.{leaf_size}
use Rattle.spec.specs.Memory.{over, filled}
use mathlib.Core.Path.{◌≡◌}
use Rattle.nodebits.proofs.leaf_bits.Given as goal

abbrev pub invariant-loop-i : goal.invariant-loop-i
invariant-loop-i l = (length l.sizes ≡ length l.initial.sizes) × (length l.works ≡ length l.initial.works) × (l.sizes ≡ put_to l.initial.sizes (leaf_size l.effective l.counts l.legs) l.n l.i) × (l.works ≡ over l.initial.works (filled l.i 0))
