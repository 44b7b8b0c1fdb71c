use Rattle.masks.specs.Weights.{two_words}
use native.Mathlib.Omega.{arith}
use Rattle.masks.proofs.planes.Planes.weigh.Goals as goal

pub overflow_add-result : goal.overflow_add-result
overflow_add-result c = let p = c.args.self.now in omega (
  arith,
  (c.weigh-low.ensures p.weights.now 0 p.light p.low_digits).1,
  (c.weigh-high.ensures p.weights.now 64 p.light p.high_digits).1,
)

pub returns : goal.returns
returns c = let p = c.args.self.now in
    let l = c.weigh-low.ensures p.weights.now 0 p.light p.low_digits in
    let h = c.weigh-high.ensures p.weights.now 64 p.light p.high_digits in (
      two_words c.args.a c.args.b p.weights.now c.weigh-low.result c.weigh-high.result l.0 h.0,
      omega (arith, l.1, h.1),
    )
