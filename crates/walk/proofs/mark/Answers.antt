use Rattle.walk.specs.Marks.{above_not, marked_not, marks_one}
use Rattle.walk.proofs.mark.Goals as goal

pub returns-then-root-x : goal.returns-then-root-x
returns-then-root-x c = above_not c.args.ws.now c.args.root c.args.x c.if-root-x.true

pub returns-then-ws-x-ne0 : goal.returns-then-ws-x-ne0
returns-then-ws-x-ne0 c = marked_not c.args.ws.now c.args.root c.args.x c.if-root-x.false c.if-ws-x-ne0.true

pub returns : goal.returns
returns c = marks_one c.args.ws.now c.args.root c.args.x c.if-root-x.false c.if-ws-x-ne0.false
