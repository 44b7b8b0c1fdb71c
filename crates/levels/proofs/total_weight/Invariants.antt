use Rattle.levels.specs.Spans.{summed}
use Rattle.spec.specs.Hypergraph.{fold_over}
use Rattle.spec.specs.Floats.{zero_float}
use Rattle.std.proofs.Common.{◌≡◌, take}
use Rattle.levels.proofs.total_weight.Given as goal

abbrev pub invariant-loop-w : goal.invariant-loop-w
invariant-loop-w l = l.sum ≡ fold_over summed (take l.w-index l.vw) zero_float
