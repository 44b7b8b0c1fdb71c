use Rattle.putfields.specs.Put.{put_none}
use Rattle.netwrite.proofs.put_ask.Goals as goal

pub returns-in-Plain : goal.returns-in-Plain
returns-in-Plain c = rw c.in-Plain.is (put_none c.args.out.now c.args.at)
