use Rattle.spec.specs.Memory.{filled}
use Rattle.spec.specs.Tree.{step_order}
use Rattle.spec.specs.Calls.{wrong_tree}
use Rattle.network.specs.Views.{in_facts, in_leaves}
use Rattle.walk.specs.Order.{order_length}
use Rattle.cost.specs.Checks.{order_front}
use Rattle.reprice.specs.Prices.{few_places, filled_held, filled_long}
use native.Mathlib.Omega.{arith}
use Prim.Native.Nat.{ℕ}
use mathlib.Core.Bool.{false}
use mathlib.Core.Path.{◌≡◌, sym, subst, ◌∙◌}
use Rattle.reprice.proofs.price.Goals as goal

pub price-requires-clause-order : goal.price-requires-clause-order
unfolding filled
price-requires-clause-order c = let a = c.args in let n : ℕ = c.leaf_count.result in
    let right : wrong_tree n a.kids.now ≡ false = subst (λ (x : ℕ). wrong_tree x a.kids.now ≡ false) (sym c.leaf_count.ensures) c.requires.right in
    order_front (filled 128 0) c.post_order-c.new.out (step_order a.kids.now n) c.post_order-c.result c.post_order-c.ensures.1
    (order_length a.kids.now n right ∙ sym c.post_order-c.ensures.0)
    (omega (arith, c.post_order-c.ensures.0, c.leaf_count.ensures, (in_facts a.network.now a.network.now.holds).few_leaves, in_leaves a.network.now))

pub returns-clause-long : goal.returns-clause-long
returns-clause-long c = filled_long c.args.kids.now c.price.ensures.filled

pub returns-clause-held : goal.returns-clause-held
returns-clause-held c =
    let few = few_places c.args.network.now c.args.network.now.holds in
    filled_held c.price.ensures.filled (omega (arith, few, c.requires.room.0)) (omega (arith, few, c.requires.room.1)) (omega (arith, few, c.requires.room.2))
