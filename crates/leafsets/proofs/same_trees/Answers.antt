use Rattle.leafsets.specs.Whole.{one_way, other_way}
use Rattle.leafsets.specs.Passes.{ups}
use Prim.Native.Nat.{◌*◌}
use mathlib.Core.Path.{ap, ◌∙◌}
use Rattle.std.proofs.lemmas.Bool.{not_from_true, not_from_false}
use Rattle.leafsets.proofs.same_trees.Goals as goal

pub returns-then-not-all_found : goal.returns-then-not-all_found
returns-then-not-all_found c = let a = c.args in let q = c.requires in one_way a.n a.kids.now a.others.now a.ws.now c.leaf_sets.new.ws c.leaf_sets-2.new.ws c.join_up.new.ws c.join_up-2.new.ws c.saturating_sub-count.result q.0 q.1 q.2 q.3 c.leaf_sets.ensures c.leaf_sets-2.ensures (c.join_up.ensures ∙ ap (ups 2 0 a.kids.now a.n c.leaf_sets-2.new.ws) q.4) (c.join_up-2.ensures ∙ ap (ups 2 (a.n * 2) a.others.now a.n c.join_up.new.ws) q.5) c.saturating_sub-count.ensures (λ i. (c.slice_known-5-1.given i).fits) c.all_found.result c.all_found.ensures (not_from_false _ c.if-not-all_found.true)

pub returns : goal.returns
returns c = let a = c.args in let q = c.requires in other_way a.n a.kids.now a.others.now a.ws.now c.leaf_sets.new.ws c.leaf_sets-2.new.ws c.join_up.new.ws c.join_up-2.new.ws c.saturating_sub-count.result q.0 q.1 q.2 q.3 c.leaf_sets.ensures c.leaf_sets-2.ensures (c.join_up.ensures ∙ ap (ups 2 0 a.kids.now a.n c.leaf_sets-2.new.ws) q.4) (c.join_up-2.ensures ∙ ap (ups 2 (a.n * 2) a.others.now a.n c.join_up.new.ws) q.5) c.saturating_sub-count.ensures (λ i. (c.slice_known-5-1.given i).fits) c.all_found.result c.all_found-2.result c.all_found.ensures (not_from_true _ c.if-not-all_found.false) c.all_found-2.ensures
