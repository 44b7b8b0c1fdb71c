use Rattle.slicing.specs.Weights.{cleared_none, cleared_next, cleared_all}
use Rattle.slots.specs.Weigh.{open_weight}
use Rattle.network.specs.Layouts.{firsts_all}
use Prim.Native.Nat.{ℕ}
use mathlib.Core.List.{List}
use mathlib.Core.Path.{ap, ◌∙◌}
use native.Mathlib.Omega.{arith}
use Rattle.slicing.proofs.ranks.sliceable_weights.Goals as goal

pub loop-output-init : goal.loop-output-init
loop-output-init c =
    let a = c.args in
    let w = a.network.now.weights.now in
    cleared_none (open_weight w a.flags.now) a.network.now.outputs.now c.effective_weights.new.effective
    (λ j. c.effective_weights.ensures j ∙ ap (λ (l : List ℕ). open_weight l a.flags.now j) (firsts_all w))

pub loop-output-preserved : goal.loop-output-preserved
loop-output-preserved c =
    let a = c.args in
    let l = c.loop-output in
    cleared_next (open_weight a.network.now.weights.now a.flags.now) a.network.now.outputs.now l.sliceable _ l.output-index _ c.from.ensures c.put.ensures l.invariant

pub returns : goal.returns
returns c =
    let a = c.args in
    let l = c.loop-output in
    cleared_all (open_weight a.network.now.weights.now a.flags.now) a.network.now.outputs.now l.sliceable l.output-index (omega arith) l.invariant
