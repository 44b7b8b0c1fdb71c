use Rattle.spec.specs.Network.{leaf_count}
use Rattle.spec.specs.Tree.{step_order}
use Rattle.spec.specs.Calls.{flag_at}
use Rattle.network.specs.Views.{net_in, in_facts, in_leaves}
use Rattle.passes.specs.Sorted.{sorted}
use Rattle.passes.specs.Nodes.{nodes_low, order_at, pass_made}
use lib.Seq.{length-take-le}
use lib.ListN.{take, length}
use native.Mathlib.Omega.{arith}
use Prim.Native.Nat.{ℕ, ◌≤◌}
use mathlib.Core.Path.{◌≡◌, sym, ap, ◌∙◌}
use Rattle.passes.proofs.pass.Goals as goal

pub visit_all-requires-clause-nodes : goal.visit_all-requires-clause-nodes
visit_all-requires-clause-nodes c = let a = c.args in let N = net_in a.task.now.network in let f = in_facts a.task.now.network a.task.now.network.holds in let q = c.order_nodes-c in let nodes = q.new.nodes in
    let e : take q.result nodes ≡ sorted a.list.now.works.now (step_order a.kids.now (leaf_count N)) =
    order_at N a.kids.now a.list.now.works.now (take q.result nodes) c.leaf_count.result (sym c.leaf_count.ensures) (ap (λ (x : ℕ). take x nodes) q.ensures.0 ∙ q.ensures.1) in
    let short : length (take q.result nodes) ≤ 127 = omega (arith, length-take-le q.result nodes (omega (arith, q.ensures.0, c.leaf_count.ensures, in_leaves a.task.now.network, f.few_leaves, q.auto.nodes)), q.ensures.0, c.leaf_count.ensures, in_leaves a.task.now.network, f.few_leaves) in
    (short, nodes_low a.list.now.works.now a.kids.now (take q.result nodes) (leaf_count N) c.requires.standing.right e)

pub returns-clause-passes : goal.returns-clause-passes
returns-clause-passes c = let a = c.args in let N = net_in a.task.now.network in let f = in_facts a.task.now.network a.task.now.network.holds in let q = c.order_nodes-c in let nodes = q.new.nodes in
    let e : take q.result nodes ≡ sorted a.list.now.works.now (step_order a.kids.now (leaf_count N)) =
    order_at N a.kids.now a.list.now.works.now (take q.result nodes) c.leaf_count.result (sym c.leaf_count.ensures) (ap (λ (x : ℕ). take x nodes) q.ensures.0 ∙ q.ensures.1) in
    let short : length (take q.result nodes) ≤ 127 = omega (arith, length-take-le q.result nodes (omega (arith, q.ensures.0, c.leaf_count.ensures, in_leaves a.task.now.network, f.few_leaves, q.auto.nodes)), q.ensures.0, c.leaf_count.ensures, in_leaves a.task.now.network, f.few_leaves) in
    pass_made (net_in a.task.now.network) (flag_at a.task.now.search.flags.now) a.task.now.search.k a.task.now.search.limit (omega (arith, a.task.now.search.clamped.0)) a.task.now.search.clamped.1 c.requires.standing e short c.visit_all.ensures.visits
