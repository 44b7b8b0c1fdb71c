use Rattle.std.proofs.Common.{◌≡◌, ◌≤◌}
use Rattle.cells.specs.Loop.{turns}
use Rattle.mesh.specs.Crossed.{crossed_net}
use Rattle.mesh.proofs.cross.Given as goal

abbrev pub invariant-loop-e : goal.invariant-loop-e
invariant-loop-e l = (l.e ≤ l.place.net_count) × (l.words ≡ turns (crossed_net l.place.nets l.place.vertices) l.initial.words l.e)
