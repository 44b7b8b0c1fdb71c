use Rattle.partition.specs.Folds.{fold_word, fold_slot}
use Rattle.partition.specs.Layout.{gain_step}
use Rattle.spec.specs.Floats.{zero_float}
use Rattle.spec.specs.Hypergraph.{fold_over}
use Rattle.bits.specs.Lowest.{places}
use mathlib.Core.Path.{◌∙◌}
use Prim.Native.Nat.{◌*◌}
use native.Mathlib.Omega.{arith}
use Rattle.partition.proofs.graph.Hypergraph.gain_sum.Goals as goal

pub loop-k-preserved : goal.loop-k-preserved
loop-k-preserved c = let a = c.args in
    let l = c.loop-k in (
      omega arith,
      fold_word (gain_step a.self.now.words.now a.self.now.place.nets a.here a.there a.self.now.weights.now) a.self.now.words.now 4 a.s l.k c.get_or-x.result zero_float l.g c.gain_word-g.result
          l.invariant.1 c.get_or-x.ensures
          (c.gain_word-g.ensures
          ∙ (λ i. fold_over (gain_step a.self.now.words.now a.self.now.place.nets (c.read-side.ensures.slot i) (c.read-other.ensures.slot i) a.self.now.weights.now) (places (l.k * 64) 64 c.get_or-x.result) l.g)),
    )

pub returns : goal.returns
returns c = let a = c.args in
    let l = c.loop-k in
    fold_slot (gain_step a.self.now.words.now a.self.now.place.nets a.here a.there a.self.now.weights.now) a.self.now.words.now 4 a.s l.k zero_float l.g (omega arith) l.invariant.1
