use Rattle.locals.specs.Unions.{uniting_none, uniting_next, uniting_end}
use native.Mathlib.Omega.{arith}
use mathlib.Core.Path.{refl, ◌∙◌}
use Rattle.locals.proofs.unite_members.Goals as goal

pub loop-p-init : goal.loop-p-init
loop-p-init c = let a = c.args in (refl, uniting_none a.words.now a.w a.sets.now a.members.now c.empty.new.words c.empty.ensures)

pub loop-p-preserved : goal.loop-p-preserved
loop-p-preserved c = let a = c.args in let l = c.loop-p in (
  omega (arith, c.mix_slot.auto, l.invariant.0),
  uniting_next c.empty.new.words a.w a.sets.now a.members.now l.p c.from.result l.words c.mix_slot.new.words (c.from.ensures ∙ c.get_or-member.ensures) l.invariant.1 c.mix_slot.ensures,
)

pub returns : goal.returns
returns c = let a = c.args in let l = c.loop-p in uniting_end a.words.now a.w a.sets.now a.members.now c.empty.new.words c.empty.ensures a.m l.p l.words (omega arith) l.invariant.1
