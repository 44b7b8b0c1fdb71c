use Rattle.std.proofs.Common.{◌≤◌}
use Rattle.moves.specs.Split.{sides_as}
use Rattle.moves.specs.Rolled.{Rolled}
use Rattle.moves.proofs.roll_back.Given as goal

abbrev pub invariant-loop-i : goal.invariant-loop-i
invariant-loop-i l = (l.i ≤ l.last) × Rolled l.initial.words l.words l.sides l.vw l.moves l.count l.i (sides_as l.initial.part l.initial.loads) (sides_as l.part l.loads)
