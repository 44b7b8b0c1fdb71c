use Rattle.std.proofs.Common.{arith, ap, ◌∙◌, set}
use Rattle.nodesets.specs.Mixes.{mix_with_next}
use Rattle.slots.specs.Slots.{written_none, with_set_end}
use Rattle.locals.proofs.mix_slot.Goals as goal

pub loop-k-init : goal.loop-k-init
loop-k-init g c = (omega arith, written_none _ _ _)

pub loop-k-preserved : goal.loop-k-preserved
loop-k-preserved g c =
    let d = c.args in
    let l = c.loop-k in (
      omega arith,
      mix_with_next g.O.WordOp.op g.O.WordOp.on_members g.met.O.WordOp.digits g.met.O.WordOp.fits d.words.now d.sets.now d.w d.c d.s d.c l.k
          c.get_or-x.result c.get_or-y.result _ _ (omega arith) l.invariant.1 (omega arith) (omega arith) c.get_or-x.ensures
          c.get_or-y.ensures (c.put.ensures ∙ ap (set l.words _) c.apply.ensures),
    )

pub returns : goal.returns
returns g c = with_set_end _ _ _ _ _ _ (omega arith) c.loop-k.invariant.1
