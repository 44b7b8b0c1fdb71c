use Rattle.std.proofs.Common.{ℕ, ◌+◌, arith, sym, ap, ◌∙◌}
use Rattle.std.specs.Prelude.{◌||◌, eqb}
use Rattle.cells.specs.Loop.{turns_none, turns_next}
use Rattle.slots.specs.Slots.{with_set, held}
use Rattle.mesh.specs.Entries.{entered}
use Rattle.mesh.proofs.put_into.Goals as goal

pub loop-k-init : goal.loop-k-init
unfolding entered
loop-k-init c = (omega arith, sym (turns_none _ _))

pub loop-k-preserved : goal.loop-k-preserved
unfolding entered
loop-k-preserved c =
    let a = c.args in
    let l = c.loop-k in (
      omega arith,
      turns_next _ _ l.k l.invariant.1
          (c.insert.ensures
          ∙ ap (λ (u : ℕ). with_set l.words a.w (a.base + u) (λ j. held l.words a.w (a.base + u) j || eqb j a.x)) (c.from-v.ensures ∙ c.get_or.ensures)),
    )
