use Rattle.locals.specs.Turns.{locals_are}
use lib.Seq.{sets}
use mathlib.Core.Path.{ap, ◌∙◌}
use lib.ListN.{length}
use Rattle.locals.proofs.local_indices.Goals as goal

pub returns : goal.returns
returns c = let a = c.args in
    let r = locals_are a.words.now a.sets.now a.sliced.now a.w a.members.now a.m c.unite_members.new.words c.mix_slot.new.words c.unite_members.ensures c.mix_slot.ensures c.requires.1 in
    (c.members.ensures.0 ∙ ap length r, c.members.ensures.1 ∙ ap (sets a.local.now 0) r)
