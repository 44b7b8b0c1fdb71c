use borrow.Author.Rules.{rules}
use Rattle.leafsets.specs.Whole.{order_front}
use lib.ListN.{length}
use native.Mathlib.Omega.{arith}
use mathlib.Core.Path.{◌≡◌}
use Rattle.leafsets.proofs.same_valid.Goals as goal

pub same_trees-requires : goal.same_trees-requires
same_trees-requires c = let q = c.requires in let a = c.args in let z = c.post_order-steps.new.out in let y = c.post_order-count.new.out in let lz : length z ≡ 128 = search rules in let ly : length y ≡ 128 = search rules in let lw : length c.post_order-count.new.ws ≡ length a.ws.now = search rules in (q.0, omega (arith, q.1, lw), q.2, q.3, order_front _ a.kids.now a.n c.post_order-steps.result z q.2 c.post_order-steps.ensures.1 (omega (arith, lz, q.0)) c.post_order-steps.ensures.0, order_front _ a.others.now a.n c.post_order-count.result y q.3 c.post_order-count.ensures.1 (omega (arith, ly, q.0)) c.post_order-count.ensures.0)
