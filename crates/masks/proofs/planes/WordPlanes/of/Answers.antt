use Rattle.masks.specs.Planes.{one_before, still_fits}
use native.Mathlib.Omega.{arith}
use Prim.Native.Nat.{◌+◌, ◌-◌}
use Rattle.masks.proofs.planes.WordPlanes.of.Goals as goal

pub loop-i-preserved : goal.loop-i-preserved
loop-i-preserved c = let a = c.args in let l = c.loop-i in let p = l.planes in let q = c.pushed-planes.result in let e = c.pushed-planes.ensures in let h = l.invariant in (
  omega arith,
  one_before a.weights.now a.base l.i p.ones p.twos p.fours p.eights (omega arith) h.0 q.ones q.twos q.fours q.eights
      (omega (arith, c.requires.1 (a.base + (l.i - 1)))) h.1 e,
  still_fits l.i p.ones _ q.ones (omega arith) h.0 h.2 (omega arith) e.0,
  still_fits l.i p.twos _ q.twos (omega arith) h.0 h.3 (omega arith) e.1,
  still_fits l.i p.fours _ q.fours (omega arith) h.0 h.4 (omega arith) e.2,
  still_fits l.i p.eights _ q.eights (omega arith) h.0 h.5 (omega arith) e.3,
)
