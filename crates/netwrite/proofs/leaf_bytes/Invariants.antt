use Rattle.netwrite.specs.Sizes.{Summed}
use Rattle.netwrite.proofs.leaf_bytes.Given as goal

abbrev pub invariant-loop-count : goal.invariant-loop-count
invariant-loop-count l = Summed l.count-index l.sum l.counts
