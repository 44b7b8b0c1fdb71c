use Rattle.std.proofs.Common.{◌≡◌, refl, suc, ◌+◌, ◌-◌, arith}
use Rattle.spec.specs.Network.{leaf_count, index_count}
use Rattle.network.specs.Views.{net_in, in_indices}
use Rattle.slicetree.specs.Choices.{going_next, going_ends}
use Rattle.slicetree.proofs.choices.slice.Goals as goal

pub loop-preserved : goal.loop-preserved
loop-preserved c =
    let a = c.args in
    let l = c.loop in
    let N = net_in a.network.now in
    let m = index_count N in
    let e : m - l.counter ≡ suc (m - (l.counter + 1)) = omega (arith, in_indices a.network.now) in (
      omega arith,
      omega arith,
      going_next N (leaf_count N) a.target a.kids.now a.flags.now m l.invariant.2 c.in-Some.ensures (m - (l.counter + 1)) e refl,
    )

pub returns : goal.returns
returns c =
    let a = c.args in
    let l = c.loop in
    let N = net_in a.network.now in
    going_ends N (leaf_count N) a.target a.kids.now a.flags.now (index_count N) (omega (arith, in_indices a.network.now)) l.invariant.2
