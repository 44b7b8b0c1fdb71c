use Rattle.spec.specs.Memory.{placed}
use Rattle.cells.specs.Cells.{copied_none, copied_next, copied_end, copied_all}
use native.Mathlib.Omega.{arith}
use mathlib.Core.Path.{refl, ◌∙◌}
use lib.ListN.{length, length-set}
use Rattle.payloads.proofs.put_bytes.Goals as goal

pub loop-k-init : goal.loop-k-init
loop-k-init c = (omega arith, c.min-k-end.ensures, refl, copied_none _ _)

pub loop-k-preserved : goal.loop-k-preserved
loop-k-preserved c = let v = c.loop-k.invariant in
    (omega arith, v.1, simp length-set v.2, copied_next _ _ _ _ (omega arith) v.3)

pub returns : goal.returns
unfolding placed
returns c = let v = c.loop-k.invariant in
    v.3 ∙ copied_end _ _ _ (length c.args.bytes.now) (omega arith) ∙ copied_all _ _
