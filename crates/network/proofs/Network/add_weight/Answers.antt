use borrow.Author.Rules.{rules}
use Rattle.network.specs.Additions.{adds_same, weights_full}
use Rattle.network.specs.Layouts.{layout_more_weights}
use Rattle.network.specs.Record.{net_of}
use native.Mathlib.Omega.{arith}
use mathlib.Core.Path.{◌≡◌}
use lib.ListN.{length}
use Rattle.network.proofs.Network.add_weight.Goals as goal

pub returns-then-m-ge-MAX_INDICES : goal.returns-then-m-ge-MAX_INDICES
returns-then-m-ge-MAX_INDICES c = weights_full c.args.self.now _ c.if-m-ge-MAX_INDICES.true

pub returns : goal.returns
unfolding net_of
returns c =
    let l : length c.args.self.now.weights ≡ 256 = search rules in
    adds_same _ _ _ _ _ (layout_more_weights _ _ _ _ _ _ _ _ (omega (arith, c.if-m-ge-MAX_INDICES.false))) c.settle.ensures
