use Rattle.cells.specs.Cells.{copied_none, copied_next, copied_all}
use Rattle.spec.specs.Memory.{copied}
use native.Mathlib.Omega.{arith}
use mathlib.Core.Path.{◌≡◌, refl, ap, ◌∙◌}
use lib.ListN.{length, length-set}
use Rattle.putfields.proofs.narrow.Goals as goal

pub loop-k-init : goal.loop-k-init
loop-k-init c = (refl, copied_none _ _)

pub loop-k-preserved : goal.loop-k-preserved
loop-k-preserved c = let v = c.loop-k.invariant in
    (simp length-set v.0, copied_next _ _ _ _ (omega arith) v.1)

pub returns : goal.returns
returns c = let v = c.loop-k.invariant in
    let e : c.loop-k.k ≡ length c.args.list.now = omega arith in
    v.1 ∙ ap (copied c.args.to.now c.args.list.now) e ∙ copied_all _ _
