use Rattle.greedynodes.specs.Copied.{copied_to}
use Rattle.cells.specs.Loop.{turns_none, turns_next}
use native.Mathlib.Omega.{arith}
use Prim.Native.Nat.{◌+◌}
use mathlib.Core.Path.{sym, ap, ◌∙◌}
use lib.ListN.{set}
use Rattle.greedynodes.proofs.copy_out.Goals as goal

pub loop-i-init : goal.loop-i-init
unfolding copied_to
loop-i-init c = (omega arith, sym (turns_none _ _))

pub loop-i-preserved : goal.loop-i-preserved
unfolding copied_to
loop-i-preserved c = let d = c.args in
    let l = c.loop-i in (omega arith, turns_next _ _ l.i l.invariant.1 (c.put.ensures ∙ ap (set l.kids (d.at + l.i)) c.get_or.ensures))
