use Rattle.std.proofs.Common.{◌∙◌, sym, ap, take}
use Rattle.std.proofs.lemmas.Iterator.{YieldsList-from_slice}
use Rattle.std.proofs.lemmas.Iterator.Adapters.{option_map_id}
use Rattle.std.proofs.lemmas.Iterator.Consumers.{max_from_yields_List, YieldsList-from_copied}
use Rattle.pricing.specs.Answers.{widest_in}
use Rattle.pricing.specs.Sums.{reduce_widest, firsts_front}
use Rattle.pricing.proofs.widest_of.Goals as goal

pub returns : goal.returns
returns c =
    let a = c.args in
    let front = take a.m a.sizes.now in
    sym (option_map_id _) ∙ max_from_yields_List _ _ c.max.ensures.ran (YieldsList-from_copied (YieldsList-from_slice front cc))
    ∙ reduce_widest front ∙ ap widest_in (firsts_front a.m a.sizes.now c.requires)
