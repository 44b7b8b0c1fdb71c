use Rattle.std.proofs.Common.{rules, ◌≡◌, ◌≤◌, arith, refl, sym, subst, length, length-take-le}
use Rattle.std.specs.Prelude.{Err, Ok}
use Rattle.bisect.specs.Recursion.{rest_part, rec_small, cut_same, rec_unsplit, left_asks, rec_left, rec_joined}
use Rattle.greedynodes.specs.Begin.{Asks}
use Rattle.bisection.specs.Calls.{rest_length, names_of}
use Rattle.bisection.specs.Named.{left_named, right_named}
use Rattle.network.specs.Views.{in_facts}
use Rattle.bisection.proofs.+bisect_rec.Goals as goal

pub returns-then-all-most : goal.returns-then-all-most
returns-then-all-most t c = let a = c.args in λ N b s. rec_small N a.eps a.cutoff b a.leaves.now a.draws.now a.kids.now (omega (arith, c.if-all-most.true, c.small-most.ensures)) _ _ (c.small_end.ensures N b s)

pub returns-in-None : goal.returns-in-None
returns-in-None t c = let a = c.args in let n = a.network.now in λ N b s.
    let cut = c.in-None.ensures.cut_by N (names_of s) in
    rec_unsplit N a.eps a.cutoff b a.leaves.now a.draws.now a.kids.now (omega (arith, c.if-all-most.false, c.small-most.ensures)) _ 0 _ cut refl _ _
    (c.unsplit_in.ensures N b (subst (λ l. Asks N b (length n.leg_counts.now) a.count n.weights.now n.leg_counts.now n.legs.now n.outputs.now l a.kids.now) (sym (cut_same N a.eps a.cutoff b a.leaves.now a.draws.now a.kids.now _ 0 _ cut refl)) s))

pub join_halves-requires : goal.join_halves-requires
join_halves-requires t c = let n = c.args.network.now in (omega (arith, (in_facts n n.holds).few_leaves), omega (arith, c.requires.1))

pub bisect_rec-requires : goal.bisect_rec-requires
bisect_rec-requires t c =
    let a = c.args in let n = a.network.now in let cut = c.cut_leaves in let cl = cut.new.leaves in let left = c.in-Some.left in let lb = c.in-Some.ensures.left_in_bounds in
    let z = length-take-le left cl (omega (arith, lb.1)) in (
      omega (arith, z, lb.1, c.decreases),
      (omega (arith, c.requires.0, z, lb.1), omega (arith, z, lb.1, c.requires.1), left_named _ _ _ _ c.requires.2 _ _ cl _ _ (c.in-Some.ensures.cut_by _ c.requires.2.names), omega (arith, c.requires.3)),
    )

pub returns-in_err-first-in-Some : goal.returns-in_err-first-in-Some
returns-in_err-first-in-Some t c =
    let a = c.args in let n = a.network.now in let cut = c.cut_leaves in let cl = cut.new.leaves in let left = c.in-Some.left in let lb = c.in-Some.ensures.left_in_bounds in
    let r = c.in_err-first-in-Some.field-0.0 in
    let t₁ : c.bisect_rec.result ≡ Err r = search rules in
    let e : c.from_residual.result ≡ Err r = search rules in
    λ N b s.
    let k = c.in-Some.ensures.cut_by N (names_of s) in
    let n₀ : left ≡ 0 → ⊥ = λ q. omega (arith, q, lb.0) in
    rec_left N a.eps a.cutoff b (length n.leg_counts.now) a.count n.weights.now n.leg_counts.now n.legs.now n.outputs.now a.leaves.now a.draws.now a.kids.now s cl left cut.new.draws k n₀ _ _ _ (c.bisect_rec.ensures N b (left_asks N a.eps a.cutoff b (length n.leg_counts.now) a.count n.weights.now n.leg_counts.now n.legs.now n.outputs.now a.leaves.now a.draws.now a.kids.now s cl left cut.new.draws k n₀)) (omega (arith, c.if-all-most.false, c.small-most.ensures)) r t₁ _ e

pub bisect_rec-second-requires : goal.bisect_rec-second-requires
bisect_rec-second-requires t c =
    let a = c.args in let n = a.network.now in let cut = c.cut_leaves in let cl = cut.new.leaves in let left = c.in-Some.left in let lb = c.in-Some.ensures.left_in_bounds in
    let y = c.bisect_rec.new.leaves in
    let h : left ≤ length cl = omega (arith, lb.1) in
    let z = rest_length cl y left _ h c.bisect_rec.auto.leaves refl in (
      omega (arith, z, lb.0, lb.1, c.decreases),
      (
        omega (arith, c.requires.0, z),
        omega (arith, z, lb.0, lb.1, c.requires.1),
        right_named _ _ _ _ c.requires.2 _ _ cl _ _ (c.in-Some.ensures.cut_by _ c.requires.2.names) y _ h c.bisect_rec.auto.leaves refl,
        omega (arith, c.requires.3),
      ),
    )

pub returns-in_ok-first-in-Some : goal.returns-in_ok-first-in-Some
returns-in_ok-first-in-Some t c =
    let a = c.args in let n = a.network.now in let cut = c.cut_leaves in let cl = cut.new.leaves in let left = c.in-Some.left in let lb = c.in-Some.ensures.left_in_bounds in
    let y = c.bisect_rec.new.leaves in
    let h : left ≤ length cl = omega (arith, lb.1) in
    let top = c.in_ok-first-in-Some.first in
    let t₁ : c.bisect_rec.result ≡ Ok top = search rules in
    λ N b s.
    let k = c.in-Some.ensures.cut_by N (names_of s) in
    let n₀ : left ≡ 0 → ⊥ = λ q. omega (arith, q, lb.0) in
    rec_joined N a.eps a.cutoff b (length n.leg_counts.now) a.count n.weights.now n.leg_counts.now n.legs.now n.outputs.now a.leaves.now a.draws.now a.kids.now s cl left cut.new.draws k n₀ _ _ _ (c.bisect_rec.ensures N b (left_asks N a.eps a.cutoff b (length n.leg_counts.now) a.count n.weights.now n.leg_counts.now n.legs.now n.outputs.now a.leaves.now a.draws.now a.kids.now s cl left cut.new.draws k n₀)) (omega (arith, c.if-all-most.false, c.small-most.ensures))
    h top t₁ _ (rest_part cl y left _ h c.bisect_rec.auto.leaves refl) _ _ refl refl (omega (arith, (in_facts n n.holds).few_leaves, c.requires.1)) _ _ _ _ _ (λ x q. c.bisect_rec-second.ensures N x q) c.join_halves.ensures
