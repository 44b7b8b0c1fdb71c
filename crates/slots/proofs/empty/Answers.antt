use Rattle.slots.specs.Writes.{word_none}
use Rattle.slots.specs.Slots.{written_none, written_next, with_set_end}
use native.Mathlib.Omega.{arith}
use Rattle.slots.proofs.empty.Goals as goal

pub loop-k-init : goal.loop-k-init
loop-k-init c = (omega arith, written_none _ _ _)

pub loop-k-preserved : goal.loop-k-preserved
loop-k-preserved c = (
  omega arith,
  written_next _ _ _ _ _ _ _ c.loop-k.invariant.1 (word_none _) c.put.ensures,
)

pub returns : goal.returns
returns c = with_set_end _ _ _ _ _ _ (omega arith) c.loop-k.invariant.1
