use Rattle.start.specs.Leaves.{other_inside, other_outside}
use mathlib.Core.Bool.{◌||◌}
use Rattle.slots.specs.Writes.{among}
use Rattle.slots.specs.Slots.{held, with_set}
use Prim.Native.Nat.{ℕ, ◌*◌}
use mathlib.Core.Path.{sym, ap, ◌∙◌}
use Rattle.start.proofs.put_other.Goals as goal

pub returns-then-has : goal.returns-then-has
returns-then-has c = let d = c.args in other_inside d.w d.counts.now d.legs.now d.sets.now d.l (sym c.has.ensures ∙ c.if-has.true)

pub returns : goal.returns
returns c = let d = c.args in
    c.put_all.ensures
    ∙ ap (λ (k : ℕ). with_set d.sets.now d.w 256 (λ j. held d.sets.now d.w 256 j || among d.legs.now (d.l * 32) k j)) (c.from-count.ensures ∙ c.get_or.ensures)
    ∙ other_outside d.w d.counts.now d.legs.now d.sets.now d.l (sym c.has.ensures ∙ c.if-has.false)
