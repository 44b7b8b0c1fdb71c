use Rattle.planning.specs.Stages.{improved_to}
use Rattle.network.specs.Record.{net_of}
use mathlib.Core.Path.{refl}
use Rattle.planning.proofs.improve.Goals as goal

pub returns : goal.returns
returns c = let a = c.args in improved_to (net_of a.network.now) a.ask a.tree.now a.flags.now _ c.flag_count-count.result c.requires.0 refl c.flag_count-count.ensures c.improve.ensures.follows.answer c.improve.ensures.follows.tree
