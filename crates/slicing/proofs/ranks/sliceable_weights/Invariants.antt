use Rattle.slicing.specs.Weights.{Cleared}
use Rattle.slots.specs.Weigh.{open_weight}
use Rattle.slicing.proofs.ranks.sliceable_weights.Given as goal

abbrev pub invariant-loop-output : goal.invariant-loop-output
invariant-loop-output l = Cleared (open_weight l.network.weights.now l.flags) l.network.outputs.now l.output-index l.sliceable
