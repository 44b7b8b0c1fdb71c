use Rattle.spec.specs.Memory.{filled}
use lib.Seq.{sets}
use Rattle.reconf.specs.Parts.{locals_listed}
use native.Mathlib.Omega.{arith}
use mathlib.Core.Path.{ap, ◌∙◌}
use lib.ListN.{length}
use Rattle.reconf.proofs.local_list.Goals as goal

pub returns : goal.returns
unfolding filled
returns c = let a = c.args in let e = locals_listed a.sets.now a.members.now (filled 4 0) c.flag_set.new.words (length a.members.now) a.flags.now (omega arith) c.flag_set.ensures in (c.all_local_indices.ensures.0 ∙ ap length e, c.all_local_indices.ensures.1 ∙ ap (sets a.local.now 0) e)
