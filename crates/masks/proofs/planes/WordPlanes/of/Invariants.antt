use Rattle.masks.specs.Planes.{HasDigits}
use Prim.Native.Nat.{◌+◌, ◌-◌, ◌^◌, ◌<◌, ◌≤◌}
use Rattle.masks.proofs.planes.WordPlanes.of.Given as goal

abbrev pub invariant-loop-i : goal.invariant-loop-i
invariant-loop-i l = let p = l.planes in
    (l.i ≤ 64) × HasDigits l.weights (l.base + l.i) (64 - l.i) p.ones p.twos p.fours p.eights
    × (p.ones < 2 ^ (64 - l.i)) × (p.twos < 2 ^ (64 - l.i)) × (p.fours < 2 ^ (64 - l.i)) × (p.eights < 2 ^ (64 - l.i))
