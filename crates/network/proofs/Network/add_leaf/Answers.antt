use borrow.Author.Rules.{rules}
use Rattle.spec.specs.Layout.{network_of}
use mathlib.Core.List.{List}
use Rattle.network.specs.Additions.{adds_same, leaves_full, full_before}
use Rattle.network.specs.Codes.{small}
use Rattle.network.specs.Layouts.{layout_more_leaves}
use Rattle.network.specs.Record.{net_of}
use native.Mathlib.Omega.{arith}
use Prim.Native.Nat.{ℕ, ◌+◌}
use mathlib.Core.Path.{◌≡◌, sym, ap, ◌∙◌}
use lib.ListN.{length, set}
use Rattle.network.proofs.Network.add_leaf.Goals as goal

pub returns-then-is_too_large : goal.returns-then-is_too_large
returns-then-is_too_large c = full_before c.args.self.now _ c.is_too_large.ensures c.if-is_too_large.true

pub returns-then-n-ge-MAX_LEAVES : goal.returns-then-n-ge-MAX_LEAVES
returns-then-n-ge-MAX_LEAVES c = leaves_full c.args.self.now _ c.if-n-ge-MAX_LEAVES.true

pub returns : goal.returns
unfolding net_of
returns c =
    let a = c.args.self.now in
    let leaf = c.args.leaf.now in
    let (p, q, r, few) = small _ _ _ _ (sym c.is_too_large.ensures ∙ c.if-is_too_large.false) in
    let counts : length a.leg_counts ≡ 128 = search rules in
    let cells : length a.legs ≡ 4096 = search rules in
    adds_same _ _ _ _ _
    (ap (λ (x : List ℕ). network_of a.index_count (a.leaf_count + 1) a.output_count a.weights (set a.leg_counts a.leaf_count (length leaf)) x a.outputs) c.place.ensures
    ∙ layout_more_leaves _ _ _ _ _ _ _ leaf few (omega (arith, c.if-n-ge-MAX_LEAVES.false)) (omega (arith, c.if-n-ge-MAX_LEAVES.false)) c.if-leaf-gt-MAX_LEGS.false)
    c.settle.ensures
