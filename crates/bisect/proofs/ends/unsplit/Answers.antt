use Rattle.bisect.specs.Cases.{small_is, is_dry, is_greedy}
use Rattle.std.proofs.Common.{refl, sym, ◌∙◌}
use Rattle.bisect.proofs.ends.unsplit.Goals as goal

-- written, so that wrong code in the test is told by its answer
pub returns-then-is_exhausted : goal.returns-then-is_exhausted
returns-then-is_exhausted c = λ N a s. is_dry refl (sym c.is_exhausted.ensures ∙ c.if-is_exhausted.true)

pub returns : goal.returns
returns c = λ N a s. is_greedy (sym c.is_exhausted.ensures ∙ c.if-is_exhausted.false) (small_is (c.greedy_nodes.ensures.planned N a s))
