use Rattle.locals.specs.Unions.{tested_none, tested_yes, tested_no, tested_end}
use Rattle.slots.specs.Slots.{held}
use native.Mathlib.Omega.{arith}
use Prim.Native.Nat.{ℕ}
use mathlib.Core.Path.{refl, sym, ap, ◌∙◌}
use lib.ListN.{length, get_or}
use Rattle.locals.proofs.put_local.Goals as goal
use Rattle.locals.proofs.put_local.Goals.{then-has, else-has}

pub loop-i-init : goal.loop-i-init
loop-i-init c = let a = c.args in (refl, tested_none a.row.now 2 0 (λ (x : ℕ). held a.sets.now a.w a.node (get_or a.local.now x 0)) c.empty.new.words c.empty.ensures)

pub loop-i-preserved : goal.loop-i-preserved
loop-i-preserved c = let a = c.args in let l = c.loop-i in let z = c.empty.new.words in
    let t : ℕ → _ = λ (x : ℕ). held a.sets.now a.w a.node (get_or a.local.now x 0) in
    let h = c.has.ensures ∙ ap (λ (x : ℕ). held a.sets.now a.w a.node x) (c.from.ensures ∙ c.get_or-j.ensures) in (
      elim c.if-has.branch [ then-has k ↦ omega (arith, ap length k.row-is, k.insert.auto.words, l.invariant.0) | else-has k ↦ omega (arith, ap length k.row-is, l.invariant.0) ],
      elim c.if-has.branch [ then-has k ↦ tested_yes z 2 0 t l.i l.row c.if-has.row (sym h ∙ k.if-has.true) l.invariant.1 (k.row-is ∙ k.insert.ensures) | else-has k ↦ k.row-is ∙ tested_no z 2 0 t l.i l.row (sym h ∙ k.if-has.false) l.invariant.1 ],
    )

pub returns : goal.returns
returns c = let a = c.args in let l = c.loop-i in
    tested_end a.row.now 2 0 (λ (x : ℕ). held a.sets.now a.w a.node (get_or a.local.now x 0)) c.empty.new.words c.empty.ensures l.i a.c l.row (omega arith) l.invariant.1
