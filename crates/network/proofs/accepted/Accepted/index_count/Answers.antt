use Rattle.std.proofs.Common.{sym}
use Rattle.network.specs.Views.{in_indices}
use Rattle.network.proofs.accepted.Accepted.index_count.Goals as goal

pub returns : goal.returns
returns c = sym (in_indices c.args.self.now)
