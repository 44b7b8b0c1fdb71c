use native.Mathlib.Omega.{arith}
use Rattle.network.specs.Views.{in_facts}
use Rattle.bisect.proofs.hypergraph.hypergraph_in.Goals as goal

pub hypergraph_of-requires : goal.hypergraph_of-requires
hypergraph_of-requires c =
    let n = c.args.network.now in
    let p = c.requires in
    (omega (arith, (in_facts n n.holds).few_indices), p.0, p.1, p.2, p.3, p.4, p.5, p.6)
