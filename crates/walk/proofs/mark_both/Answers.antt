use Rattle.walk.specs.Marks.{first_not, then_second}
use Rattle.std.proofs.lemmas.Bool.{not_from_true, not_from_false}
use Rattle.walk.proofs.mark_both.Goals as goal

pub returns-then-not-mark : goal.returns-then-not-mark
returns-then-not-mark c = first_not c.args.ws.now c.mark.new.ws c.args.root c.args.l c.args.r c.mark.result c.mark.ensures (not_from_false _ c.if-not-mark.true)

pub returns : goal.returns
returns c = then_second c.args.ws.now c.mark.new.ws c.mark-2.new.ws c.args.root c.args.l c.args.r c.mark.result c.mark-2.result c.mark.ensures (not_from_true _ c.if-not-mark.false) c.mark-2.ensures
