use Rattle.nodebits.specs.Loops.{step_sums}
use native.Mathlib.Omega.{arith}
use Rattle.nodebits.proofs.step_bits.Goals as goal

pub overflow_sub-work : goal.overflow_sub-work
overflow_sub-work c = let o = c.overlap-o in let a = c.args in let g = step_sums a.effective.now a.sets.now a.w a.l a.r a.v a.left a.right o.result.shared o.result.dropped c.requires.0 c.requires.1 c.requires.2 c.requires.3 o.ensures.0 o.ensures.1 in omega (arith, g.work, c.from.ensures, c.from-2.ensures)

pub overflow_cast-result : goal.overflow_cast-result
overflow_cast-result c = let o = c.overlap-o in let a = c.args in let g = step_sums a.effective.now a.sets.now a.w a.l a.r a.v a.left a.right o.result.shared o.result.dropped c.requires.0 c.requires.1 c.requires.2 c.requires.3 o.ensures.0 o.ensures.1 in omega (arith, g.work, g.small, c.from.ensures, c.from-2.ensures)

pub overflow_sub-result : goal.overflow_sub-result
overflow_sub-result c = let o = c.overlap-o in let a = c.args in let g = step_sums a.effective.now a.sets.now a.w a.l a.r a.v a.left a.right o.result.shared o.result.dropped c.requires.0 c.requires.1 c.requires.2 c.requires.3 o.ensures.0 o.ensures.1 in omega (arith, g.work, g.size, c.from.ensures, c.from-2.ensures)

pub overflow_cast-result-2 : goal.overflow_cast-result-2
overflow_cast-result-2 c = let o = c.overlap-o in let a = c.args in let g = step_sums a.effective.now a.sets.now a.w a.l a.r a.v a.left a.right o.result.shared o.result.dropped c.requires.0 c.requires.1 c.requires.2 c.requires.3 o.ensures.0 o.ensures.1 in omega (arith, g.work, g.size, g.small, c.from.ensures, c.from-2.ensures)

pub returns : goal.returns
returns c = let o = c.overlap-o in let a = c.args in let g = step_sums a.effective.now a.sets.now a.w a.l a.r a.v a.left a.right o.result.shared o.result.dropped c.requires.0 c.requires.1 c.requires.2 c.requires.3 o.ensures.0 o.ensures.1 in (omega (arith, g.work, c.from.ensures, c.from-2.ensures), omega (arith, g.work, g.size, c.from.ensures, c.from-2.ensures))
