use Rattle.masks.specs.Tables.{United}
use Prim.Native.Nat.{◌≤◌}
use lib.ListN.{length}
use Rattle.masks.proofs.unions.Given as goal

abbrev pub invariant-loop-s : goal.invariant-loop-s
invariant-loop-s l = (1 ≤ l.s) × (l.s ≤ length l.initial.united) × United l.initial.united l.united (length l.initial.united) l.s
