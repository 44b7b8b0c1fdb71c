use Rattle.laws.specs.FlatLaws.{left_of, right_of}
use Rattle.nodesets.specs.Passes.{downs}
use mathlib.Core.Path.{◌≡◌}
use lib.ListN.{length}
use Rattle.nodesets.proofs.want_down.Given as goal

abbrev pub invariant-loop-node : goal.invariant-loop-node
invariant-loop-node l = (length l.outside ≡ length l.initial.outside) × (l.outside ≡ downs l.w (left_of l.kids l.n) (right_of l.kids l.n) l.order l.sets l.initial.outside (length l.yielded))
