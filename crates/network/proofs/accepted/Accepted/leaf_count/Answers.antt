use Rattle.std.proofs.Common.{sym}
use Rattle.network.specs.Views.{in_leaves}
use Rattle.network.proofs.accepted.Accepted.leaf_count.Goals as goal

pub returns : goal.returns
returns c = sym (in_leaves c.args.self.now)
