use borrow.Author.Rules.{rules}
use Rattle.network.specs.Additions.{adds_same, outputs_full}
use Rattle.network.specs.Layouts.{layout_more_outputs}
use Rattle.network.specs.Record.{net_of}
use native.Mathlib.Omega.{arith}
use mathlib.Core.Path.{◌≡◌}
use lib.ListN.{length}
use Rattle.network.proofs.Network.add_output.Goals as goal

pub returns-then-o-ge-MAX_OUTPUTS : goal.returns-then-o-ge-MAX_OUTPUTS
returns-then-o-ge-MAX_OUTPUTS c = outputs_full c.args.self.now _ c.if-o-ge-MAX_OUTPUTS.true

pub returns : goal.returns
unfolding net_of
returns c =
    let l : length c.args.self.now.outputs ≡ 32 = search rules in
    adds_same _ _ _ _ _ (layout_more_outputs _ _ _ _ _ _ _ _ (omega (arith, c.if-o-ge-MAX_OUTPUTS.false))) c.settle.ensures
