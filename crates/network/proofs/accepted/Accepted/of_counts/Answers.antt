use Rattle.std.proofs.Common.{◌≡◌, sym, ◌∙◌, subst, arith, IfOk, IfErr, Some, length-take-le}
use Rattle.spec.specs.Network.{refusal_of}
use Rattle.spec.specs.Layout.{network_of}
use Rattle.network.specs.Codes.{large_layout, refused_large, in_use}
use Rattle.network.specs.Layouts.{layout_front}
use Rattle.network.specs.Views.{net_in}
use Rattle.network.proofs.accepted.Accepted.of_counts.Goals as goal

pub returns-then-is_too_large-clause-err : goal.returns-then-is_too_large-clause-err
returns-then-is_too_large-clause-err c =
    let a = c.args in
    let N = network_of a.counts.0 a.counts.1 a.counts.2 a.weights.now a.leg_counts.now a.legs.now a.outputs.now in
    refused_large N (large_layout a.counts.0 a.counts.1 a.counts.2 a.weights.now a.leg_counts.now a.legs.now a.outputs.now ∙ sym c.is_too_large.ensures ∙ c.if-is_too_large.true)

pub slice_bounds-of_lists-end : goal.slice_bounds-of_lists-end
slice_bounds-of_lists-end c = sym (length-take-le _ _ (in_use _ _ _ _ _ _ _ c.requires (sym c.is_too_large.ensures ∙ c.if-is_too_large.false)).0)

pub slice_bounds-of_lists-end-2 : goal.slice_bounds-of_lists-end-2
slice_bounds-of_lists-end-2 c = sym (length-take-le _ _ (in_use _ _ _ _ _ _ _ c.requires (sym c.is_too_large.ensures ∙ c.if-is_too_large.false)).1)

pub slice_bounds-of_lists-end-3 : goal.slice_bounds-of_lists-end-3
slice_bounds-of_lists-end-3 c = sym (length-take-le _ _ (in_use _ _ _ _ _ _ _ c.requires (sym c.is_too_large.ensures ∙ c.if-is_too_large.false)).2)

pub of_lists-requires : goal.of_lists-requires
of_lists-requires c =
    let (p, q, r, s) = in_use _ _ _ _ _ _ _ c.requires (sym c.is_too_large.ensures ∙ c.if-is_too_large.false) in
    λ h. omega (arith, s, length-take-le _ _ q)

pub returns-clause-ok : goal.returns-clause-ok
returns-clause-ok c =
    let (p, q, r, s) = in_use _ _ _ _ _ _ _ c.requires (sym c.is_too_large.ensures ∙ c.if-is_too_large.false) in
    subst (λ N. IfOk c.of_lists.result (λ a. net_in a ≡ N)) (layout_front _ _ _ _ _ _ _ p q r) c.of_lists.ensures.ok

pub returns-clause-err : goal.returns-clause-err
returns-clause-err c =
    let (p, q, r, s) = in_use _ _ _ _ _ _ _ c.requires (sym c.is_too_large.ensures ∙ c.if-is_too_large.false) in
    subst (λ N. IfErr c.of_lists.result (λ k. refusal_of N ≡ Some k)) (layout_front _ _ _ _ _ _ _ p q r) c.of_lists.ensures.err
