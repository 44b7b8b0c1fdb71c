use Rattle.start.specs.Leaves.{range_more}
use mathlib.Core.List.{List, [], ◌∷◌, ◌++◌}
use native.Mathlib.Omega.{arith}
use mathlib.Core.Path.{sym, ap, ◌∙◌}
use Rattle.start.proofs.put_live.Goals as goal

pub loop-slot-preserved : goal.loop-slot-preserved
loop-slot-preserved c = let l = c.loop-slot in (
  omega arith,
  c.push.ensures.items ∙ ap (λ (x : List _). x ++ (l.slot ∷ [])) l.invariant.1 ∙ sym (range_more l.slot),
  omega (arith, c.push.ensures.len, l.invariant.2),
)
