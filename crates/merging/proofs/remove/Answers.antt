use Rattle.std.proofs.Common.{rules}
use Rattle.arrayvec.proofs.ArrayVecLemmas.{filter-from_retain}
use Rattle.merging.specs.Listed.{other}
use Rattle.merging.proofs.remove.Goals as goal

pub returns-clause-items : goal.returns-clause-items
returns-clause-items g c = let d = c.args in filter-from_retain _ (other d.x d.y) _ (λ v b f' w called. search rules) _ _ c.retain.ensures.filtered
