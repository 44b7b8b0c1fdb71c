use Rattle.std.proofs.Common.{rules, Err, Ok, replicate, Result, OnErr}
use Rattle.std.proofs.Math.ListN.{length-replicate}
use Rattle.spec.specs.declared.Refusal.{Refusal}
use Rattle.spec.specs.Lists.{range}
use Rattle.spec.specs.Network.{leaf_count}
use Rattle.network.specs.Views.{net_in, in_facts, in_leaves}
use Rattle.greedynodes.specs.Counted.{counted_range}
use Rattle.greedynodes.specs.Networks.{accepted_asks}
use Rattle.greedy.specs.Whole.{Grown, asks_all, grown_left, grown_whole}
use mathlib.Core.List.{[]}
use Prim.Native.Nat.{ℕ, ◌≤◌}
use native.Mathlib.Omega.{arith}
use lib.ListN.{take}
use mathlib.Core.Path.{◌≡◌, sym, ap, ◌∙◌, subst}
use Rattle.greedy.proofs.plan_all.Goals as goal

pub returns-in_err-plan_leaves : goal.returns-in_err-plan_leaves
returns-in_err-plan_leaves c =
    let A = c.args.network.now in
    let t = c.args.tree.now in
    let n = c.leaf_count-n.result in
    let low : n ≤ 128 = omega (arith, (in_facts A A.holds).few_leaves, in_leaves A, c.leaf_count-n.ensures) in
    let all : take n c.count_up.new.list ≡ range (leaf_count (net_in A)) =
    ap (take n) c.count_up.ensures ∙ counted_range (replicate 128 0) n (omega (arith, low, length-replicate {A = ℕ} 128 0)) ∙ ap range c.leaf_count-n.ensures in
    let r = c.in_err-plan_leaves.field-0.0 in
    let z : c.plan_leaves.result ≡ Err r = search rules in
    let e : c.from_residual.result ≡ Err r = search rules in
    let u : c.plan_leaves.new.kids ≡ t = subst (λ (q : Result ℕ Refusal). OnErr q (c.plan_leaves.new.kids ≡ t)) z c.plan_leaves.ensures.untouched in
    subst (Grown (net_in A) t c.plan_leaves.new.kids) (sym e)
    (grown_left (net_in A) (take n c.count_up.new.list) all t c.plan_leaves.new.kids c.plan_leaves.result
    (c.plan_leaves.ensures.planned (net_in A) [] (accepted_asks A [] 0 (take n c.count_up.new.list) t (asks_all (net_in A) (take n c.count_up.new.list) all t))) r z u)

pub returns : goal.returns
returns c =
    let A = c.args.network.now in
    let t = c.args.tree.now in
    let n = c.leaf_count-n.result in
    let low : n ≤ 128 = omega (arith, (in_facts A A.holds).few_leaves, in_leaves A, c.leaf_count-n.ensures) in
    let all : take n c.count_up.new.list ≡ range (leaf_count (net_in A)) =
    ap (take n) c.count_up.ensures ∙ counted_range (replicate 128 0) n (omega (arith, low, length-replicate {A = ℕ} 128 0)) ∙ ap range c.leaf_count-n.ensures in
    let z : c.plan_leaves.result ≡ Ok c.in_ok-plan_leaves.field-0 = search rules in
    grown_whole (net_in A) (take n c.count_up.new.list) all t c.plan_leaves.new.kids c.plan_leaves.result
    (c.plan_leaves.ensures.planned (net_in A) [] (accepted_asks A [] 0 (take n c.count_up.new.list) t (asks_all (net_in A) (take n c.count_up.new.list) all t))) c.in_ok-plan_leaves.field-0 z
