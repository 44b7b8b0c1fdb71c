use Rattle.steps.specs.Records.{put_back}
use Rattle.steps.proofs.put_steps.Goals as goal

pub returns : goal.returns
returns c =
    let a = c.args in
    let l = c.loop-i in
    put_back a.steps.now l.place-items a.numbers.now a.count c.min-n.result l.i c.min-n.ensures c.loop-i-test.false l.invariant.0 l.invariant.1
