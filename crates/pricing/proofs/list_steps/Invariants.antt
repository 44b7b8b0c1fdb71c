use Rattle.laws.specs.FlatLaws.{left_of, right_of}
use Rattle.pricing.specs.Lines.{lines_to}
use Prim.Native.Nat.{◌≤◌}
use mathlib.Core.Path.{◌≡◌}
use lib.ListN.{length}
use Rattle.pricing.proofs.list_steps.Given as goal

abbrev pub invariant-loop-k : goal.invariant-loop-k
invariant-loop-k l = (l.k ≤ length l.order) × (length l.steps ≡ length l.initial.steps) × (l.steps ≡ lines_to (left_of l.tree.kids.now l.tree.leaves) (right_of l.tree.kids.now l.tree.leaves) l.list.works.now l.list.sizes.now l.order l.initial.steps l.k)
