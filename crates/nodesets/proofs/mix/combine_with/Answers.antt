use borrow.Author.Rules.{rules}
use Rattle.std.proofs.Common.{◌+◌, ◌*◌, refl, arith}
use Rattle.slots.specs.Slots.{written_none, with_set_end}
use Rattle.nodesets.specs.Mixes.{mix_with_next}
use Rattle.nodesets.proofs.mix.combine_with.Goals as goal

pub loop-k-init : goal.loop-k-init
loop-k-init g c = (omega arith, refl, written_none _ _ _)

pub loop-k-preserved : goal.loop-k-preserved
loop-k-preserved g c =
    let d = c.args in
    let l = c.loop-k in (
      omega arith,
      search rules,
      mix_with_next g.O.WordOp.op g.O.WordOp.on_members g.met.O.WordOp.digits g.met.O.WordOp.fits d.words.now d.other.now d.w d.a d.b d.c l.k _ _ _ _ (omega arith)
          l.invariant.2 (omega (arith, c.slice_known-1.given (d.a * d.w + l.k))) (omega (arith, c.shared_slice_known-1.given (d.b * d.w + l.k))) refl refl (search rules),
    )

pub returns : goal.returns
returns g c = with_set_end _ _ _ _ _ _ (omega arith) c.loop-k.invariant.2
