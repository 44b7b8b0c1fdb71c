use Rattle.putfields.specs.Put.{put_none}
use Rattle.netwrite.proofs.put_tree.Goals as goal

pub returns-in-None : goal.returns-in-None
returns-in-None c = rw c.in-None.is (put_none c.args.out.now c.args.at)
