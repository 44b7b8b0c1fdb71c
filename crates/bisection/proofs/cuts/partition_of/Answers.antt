use Rattle.bisection.specs.Parting.{stage_of, put_back}
use Rattle.spec.specs.Floats.{zero_float}
use lib.Ieee.{of_bits}
use lib.Seq.{length-take-le}
use native.Mathlib.Omega.{arith}
use lib.ListN.{length}
use Rattle.bisection.proofs.cuts.partition_of.Goals as goal

pub bisect-requires : goal.bisect-requires
unfolding of_bits
bisect-requires c =
    let a = c.args in
    let p = c.requires in
    let s = p.2 in
    let b = put_back zero_float 3584 (length a.leaves.now) c.hypergraph_in-nets.new.vw (omega arith) in (
      stage_of _ _ _ _ _ _ _ _ (c.hypergraph_in-nets.ensures s.network s.names) p.0 p.1
          (omega (arith, p.3)) _ _ _ (omega arith) (omega (arith, b)) (omega arith),
      length-take-le (length a.leaves.now) a.part.now (omega (arith, p.1, p.4)),
    )
