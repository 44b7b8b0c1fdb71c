use Rattle.payloads.specs.Payload.{copied_front, tree_right, tree_wrong, tree_long}
use Rattle.spec.specs.Calls.{wrong_tree}
use mathlib.Core.Bool.{not}
use native.Mathlib.Omega.{arith}
use mathlib.Core.Path.{ap, ◌∙◌}
use Rattle.payloads.proofs.check_tree.Goals as goal

pub returns-then-len-gt256 : goal.returns-then-len-gt256
returns-then-len-gt256 c = tree_long _ _ c.requires c.if-len-gt256.true

pub returns-then-is_tree : goal.returns-then-is_tree
returns-then-is_tree c = let a = c.args in
    let q = copied_front _ a.bytes.now c.copy_bytes.new.to c.copy_bytes.ensures (omega arith) in
    tree_right a.n a.bytes.now (c.is_tree.ensures ∙ ap (λ l. not (wrong_tree a.n l)) q) c.if-is_tree.true

pub returns-else-is_tree : goal.returns-else-is_tree
returns-else-is_tree c = let a = c.args in
    let q = copied_front _ a.bytes.now c.copy_bytes.new.to c.copy_bytes.ensures (omega arith) in
    tree_wrong a.n a.bytes.now (c.is_tree.ensures ∙ ap (λ l. not (wrong_tree a.n l)) q) c.if-is_tree.false
