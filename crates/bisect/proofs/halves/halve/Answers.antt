use lib.ListN.{take, length}
use Rattle.bisect.specs.Picks.{copied_front, few_left, both_halves}
use native.Mathlib.Omega.{arith}
use mathlib.Core.Path.{refl, ap, ◌∙◌}
use Rattle.bisect.proofs.halves.halve.Goals as goal

pub offset_bounds-leaves-left : goal.offset_bounds-leaves-left
offset_bounds-leaves-left c = let a = c.args in let es = ap (take (length a.leaves.now)) c.copy.ensures ∙ copied_front a.others.now a.leaves.now (length a.leaves.now) refl c.requires.0 in record { fits = omega (arith, c.requires, few_left a.part.now a.leaves.now _ c.pick-left.result es c.pick-left.ensures.0) }

pub slice_bounds-pick-count : goal.slice_bounds-pick-count
slice_bounds-pick-count c = let a = c.args in let es = ap (take (length a.leaves.now)) c.copy.ensures ∙ copied_front a.others.now a.leaves.now (length a.leaves.now) refl c.requires.0 in omega (arith, few_left a.part.now a.leaves.now _ c.pick-left.result es c.pick-left.ensures.0)

pub slice_bounds-pick-start : goal.slice_bounds-pick-start
slice_bounds-pick-start c = let a = c.args in let es = ap (take (length a.leaves.now)) c.copy.ensures ∙ copied_front a.others.now a.leaves.now (length a.leaves.now) refl c.requires.0 in omega (arith, few_left a.part.now a.leaves.now _ c.pick-left.result es c.pick-left.ensures.0)

pub returns : goal.returns
returns c = let a = c.args in let es = ap (take (length a.leaves.now)) c.copy.ensures ∙ copied_front a.others.now a.leaves.now (length a.leaves.now) refl c.requires.0 in both_halves a.part.now a.leaves.now _ c.pick-left.new.out c.pick.new.out c.pick-left.result _ es c.pick-left.ensures refl c.pick.ensures.1
