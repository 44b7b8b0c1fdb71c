use Rattle.std.proofs.Common.{refl}
use lib.Ieee.{of_bits, round}
use Rattle.moves.specs.Sums.{counted_better, counted_no_better}
use Rattle.moves.proofs.pass.Pass.counted.Goals as goal

pub returns-then-self-clause-sums : goal.returns-then-self-clause-sums
unfolding of_bits round
returns-then-self-clause-sums c =
    let a = c.args in
    let t = c.round_to in
    counted_better a.self.now.count a.self.now.peak a.self.now.sum a.self.now.best a.key t.result _ t.ensures refl c.if-self.true

pub returns-else-self-clause-sums : goal.returns-else-self-clause-sums
unfolding of_bits round
returns-else-self-clause-sums c =
    let a = c.args in
    let t = c.round_to in
    counted_no_better a.self.now.count a.self.now.peak a.self.now.sum a.self.now.best a.key t.result _ t.ensures refl c.if-self.false
