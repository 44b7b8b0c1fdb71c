use Rattle.std.proofs.Common.{◌≡◌, ◌∙◌, ℕ, false, sym, subst}
use Rattle.spec.specs.Calls.{wrong_tree}
use Rattle.reconfigure.specs.Improves.{beyond_is}
use Rattle.slicetree.proofs.is_beyond.Goals as goal

pub returns : goal.returns
returns c =
    let right : wrong_tree c.leaf_count.result c.args.kids.now ≡ false =
    subst (λ (k : ℕ). wrong_tree k c.args.kids.now ≡ false) (sym c.leaf_count.ensures) c.requires.right in
    c.is_beyond.ensures ∙ beyond_is c.leaf_count.result (sym c.leaf_count.ensures) right c.price.ensures.held
