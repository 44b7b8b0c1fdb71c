use Rattle.spec.specs.declared.Refusal.TheVariants.{TotalBeyond, DanglingIndex}
use Rattle.spec.specs.Calls.{wrong_tree}
use Rattle.network.specs.Views.{net_in}
use Rattle.reconfigure.specs.Improves.{answered_done, beyond_is, standing_start}
use Rattle.reconfigure.specs.Checks.{last_beyond, last_dangling, last_done, answered_refused}
use Prim.Native.Nat.{ℕ}
use mathlib.Core.Bool.{false}
use mathlib.Core.Path.{◌≡◌, sym, subst, ◌∙◌}
use Rattle.reconfigure.proofs.improve_valid.Goals as goal

pub returns-then-is_total_beyond : goal.returns-then-is_total_beyond
returns-then-is_total_beyond c = let a = c.args in let N = net_in a.task.now.network in let n : ℕ = c.leaf_count.result in
    let right : wrong_tree n a.kids.now ≡ false = subst (λ (x : ℕ). wrong_tree x a.kids.now ≡ false) (sym c.leaf_count.ensures) c.requires.right in
    let is = beyond_is n (sym c.leaf_count.ensures) right c.price.ensures.held in
    answered_refused TotalBeyond (last_beyond N a.task.now.search.k a.most a.task.now.search.limit a.task.now.search.flags.now a.kids.now (sym is ∙ sym c.is_total_beyond.ensures ∙ c.if-is_total_beyond.true))

pub returns-then-is_dangling : goal.returns-then-is_dangling
returns-then-is_dangling c = let a = c.args in let N = net_in a.task.now.network in let n : ℕ = c.leaf_count.result in
    let right : wrong_tree n a.kids.now ≡ false = subst (λ (x : ℕ). wrong_tree x a.kids.now ≡ false) (sym c.leaf_count.ensures) c.requires.right in
    let is = beyond_is n (sym c.leaf_count.ensures) right c.price.ensures.held in
    let off = sym is ∙ sym c.is_total_beyond.ensures ∙ c.if-is_total_beyond.false in
    answered_refused DanglingIndex (last_dangling N a.task.now.search.k a.most a.task.now.search.limit a.task.now.search.flags.now a.kids.now off (sym c.is_dangling.ensures ∙ c.if-is_dangling.true))

pub improve-requires-clause-standing : goal.improve-requires-clause-standing
improve-requires-clause-standing c = let a = c.args in let N = net_in a.task.now.network in let n : ℕ = c.leaf_count.result in
    let right : wrong_tree n a.kids.now ≡ false = subst (λ (x : ℕ). wrong_tree x a.kids.now ≡ false) (sym c.leaf_count.ensures) c.requires.right in
    let is = beyond_is n (sym c.leaf_count.ensures) right c.price.ensures.held in
    let off = sym is ∙ sym c.is_total_beyond.ensures ∙ c.if-is_total_beyond.false in
    standing_start n (sym c.leaf_count.ensures) right c.price.ensures.held off

pub returns : goal.returns
returns c = let a = c.args in let N = net_in a.task.now.network in let n : ℕ = c.leaf_count.result in
    let right : wrong_tree n a.kids.now ≡ false = subst (λ (x : ℕ). wrong_tree x a.kids.now ≡ false) (sym c.leaf_count.ensures) c.requires.right in
    let is = beyond_is n (sym c.leaf_count.ensures) right c.price.ensures.held in
    let off = sym is ∙ sym c.is_total_beyond.ensures ∙ c.if-is_total_beyond.false in
    answered_done N a.task.now.search.k a.most a.task.now.search.limit a.task.now.search.flags.now c.improve.result _ a.task.now.search.clamped.0 a.task.now.search.clamped.1 c.requires.right c.improve.auto.kids c.improve.ensures.improves
    (last_done N a.task.now.search.k a.most a.task.now.search.limit a.task.now.search.flags.now a.kids.now off (sym c.is_dangling.ensures ∙ c.if-is_dangling.false))
