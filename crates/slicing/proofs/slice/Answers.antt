use Rattle.slicing.specs.Turns.{Slicing, Sliced, slicing_next, slicing_stops, slicing_ends}
use borrow.Author.Tests.{not-true, not-false}
use Rattle.network.specs.Views.{net_in, in_indices}
use Prim.Native.Nat.{ℕ, suc, ◌+◌, ◌-◌}
use native.Mathlib.Omega.{arith}
use lib.ListN.{length}
use mathlib.Core.Path.{◌≡◌, sym, subst}
use Rattle.std.proofs.lemmas.Bool.{not_from_true, not_from_false}
use Rattle.slicing.proofs.slice.Goals as goal

pub loop-preserved : goal.loop-preserved
loop-preserved c =
    let a = c.args in
    let l = c.loop in
    let m = length a.network.now.weights.now in
    let e : m - l.counter ≡ suc (m - (l.counter + 1)) = omega arith in (
      omega arith,
      slicing_next (net_in a.network.now) a.target a.tree.now.kids.now a.flags.now m (m - (l.counter + 1)) l.flags _ c.turn.result
          (not-false c.turn.result (not_from_true _ c.if-not-turn.false)) c.turn.ensures
          (subst (λ (x : ℕ). Slicing (net_in a.network.now) a.target a.tree.now.kids.now a.flags.now m x l.flags) e l.invariant.1),
    )

pub returns-then-not-turn : goal.returns-then-not-turn
returns-then-not-turn c =
    let a = c.args in
    let l = c.loop in
    let N = net_in a.network.now in
    let m = length a.network.now.weights.now in
    subst (λ (x : ℕ). Sliced N a.target a.tree.now.kids.now a.flags.now x c.turn.new.flags) (sym (in_indices a.network.now))
    (slicing_stops N a.target a.tree.now.kids.now a.flags.now m (m - l.counter) l.flags c.turn.new.flags c.turn.result
    (not-true c.turn.result (not_from_false _ c.if-not-turn.true)) c.turn.ensures l.invariant.1)

pub returns : goal.returns
returns c =
    let a = c.args in
    let l = c.loop in
    let N = net_in a.network.now in
    let m = length a.network.now.weights.now in
    subst (λ (x : ℕ). Sliced N a.target a.tree.now.kids.now a.flags.now x l.flags) (sym (in_indices a.network.now))
    (slicing_ends N a.target a.tree.now.kids.now a.flags.now m (m - l.counter) l.flags (omega arith) l.invariant.1)
