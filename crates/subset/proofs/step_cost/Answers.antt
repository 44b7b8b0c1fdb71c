use Rattle.subset.specs.Considers.{work_left, work_right, not_below, step_none, step_some, small_power}
use Rattle.subset.specs.Walk.{step_cost}
use Rattle.bits.specs.Bit.{one_shl}
use native.Mathlib.Omega.{arith}
use Prim.Native.Nat.{ℕ}
use mathlib.Core.Path.{sym, ap, ◌∙◌}
use Rattle.std.specs.Prelude.{Some}
use Rattle.std.proofs.lemmas.Bool.{not_from_false}
use Rattle.subset.proofs.step_cost.Goals as goal

pub returns-then-not-below : goal.returns-then-not-below
returns-then-not-below c = let a = c.args in let t = a.tables.now in
    not_below c.below.result _ _ _ _ (not_from_false _ c.if-not-below.true) c.below.ensures c.bits.ensures (work_left t.kept.now t.planes.weights.now a.l a.r)

pub returns-then-not-below-2 : goal.returns-then-not-below-2
returns-then-not-below-2 c = let a = c.args in let t = a.tables.now in
    not_below c.below-2.result _ _ _ _ (not_from_false _ c.if-not-below-2.true) c.below-2.ensures c.bits-2.ensures (work_right t.kept.now t.planes.weights.now a.l a.r)

pub overflow_shl-result : goal.overflow_shl-result
overflow_shl-result c = let z = small_power c.work-work.result c.args.room (omega arith) (sym c.below-3.ensures ∙ c.if-below.true) in omega (arith, z)

pub returns-then-below : goal.returns-then-below
returns-then-below c = let z = small_power c.work-work.result c.args.room (omega arith) (sym c.below-3.ensures ∙ c.if-below.true) in
    ap Some (one_shl c.work-work.result (omega (arith, z))) ∙ step_some c.work-work.result c.args.room (sym c.below-3.ensures ∙ c.if-below.true) ∙ ap (λ (e : ℕ). step_cost e c.args.room) c.work-work.ensures.0

pub returns-else-below : goal.returns-else-below
returns-else-below c = step_none c.work-work.result c.work-work.result c.args.room (omega arith) (sym c.below-3.ensures ∙ c.if-below.false) ∙ ap (λ (e : ℕ). step_cost e c.args.room) c.work-work.ensures.0
