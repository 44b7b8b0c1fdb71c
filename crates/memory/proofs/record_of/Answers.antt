use mathlib.Core.Path.{◌∙◌}
use lib.ListN.{length, replicate}
use Rattle.spec.specs.Layout.{network_of}
use Rattle.network.specs.Record.{net_of}
use Rattle.memory.specs.Copies.{clear, same_network}
use Rattle.memory.proofs.record_of.Goals as goal

pub returns : goal.returns
unfolding net_of
returns c =
    let a = c.args.lists.now in
    let weights = c.copy.ensures in
    let counts = c.copy-2.ensures in
    let legs = c.copy-3.ensures in
    let outputs = c.copy-4.ensures in
    (λ j. network_of (length a.weights.now) (length a.leg_counts.now) (length a.outputs.now) (weights j) (counts j) (legs j) (outputs j))
    ∙ same_network a.weights.now a.leg_counts.now a.legs.now a.outputs.now
    (replicate 256 0) (replicate 128 0) (replicate 4096 0) (replicate 32 0) (clear 256) (clear 128) (clear 4096) (clear 32) c.requires
