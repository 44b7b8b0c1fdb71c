use borrow.Author.Rules.{rules}
use Rattle.steplines.specs.Lines.{member_out}
use mathlib.Core.Path.{◌≡◌, sym, ◌∙◌}
use Rattle.steplines.proofs.listed.Listed.put_member.Goals as goal

pub returns-else-has : goal.returns-else-has
returns-else-has c = let e : c.from.result ≡ c.args.v = search rules in
    member_out _ _ _ (sym (rw e at c.has.ensures) ∙ c.if-has.false)
