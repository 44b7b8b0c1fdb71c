use Rattle.bisect.specs.Cuts.{CutBy, cut_exhausted, cut_left, cut_some}
use Rattle.std.proofs.Common.{ℕ, subst}
use Rattle.bisection.proofs.cuts.cut_leaves.Goals as goal

pub returns-then-is_exhausted-clause-cut_by : goal.returns-then-is_exhausted-clause-cut_by
returns-then-is_exhausted-clause-cut_by c = let a = c.args in λ N s. cut_exhausted N a.leaves.now a.eps a.draws.now _ _ (c.partition_of.ensures N s) c.is_exhausted.result c.is_exhausted.ensures c.if-is_exhausted.true

pub returns-then-left-n-clause-cut_by : goal.returns-then-left-n-clause-cut_by
returns-then-left-n-clause-cut_by c = let a = c.args in λ N s. cut_left N a.leaves.now a.eps a.draws.now _ _ (c.partition_of.ensures N s) c.is_exhausted.result c.is_exhausted.ensures c.if-is_exhausted.false _ c.halve-left.result c.halve-left.ensures c.if-left-n.true

pub returns-then-left-eq0-clause-cut_by : goal.returns-then-left-eq0-clause-cut_by
returns-then-left-eq0-clause-cut_by c = let a = c.args in λ N s. subst (λ (k : ℕ). CutBy N a.leaves.now a.eps a.draws.now c.halve-left.new.leaves k c.partition_of.new.draws) c.if-left-eq0.true (cut_some N a.leaves.now a.eps a.draws.now _ _ (c.partition_of.ensures N s) c.is_exhausted.result c.is_exhausted.ensures c.if-is_exhausted.false _ c.halve-left.result c.halve-left.ensures c.if-left-n.false)

pub returns-clause-cut_by : goal.returns-clause-cut_by
returns-clause-cut_by c = let a = c.args in λ N s. cut_some N a.leaves.now a.eps a.draws.now _ _ (c.partition_of.ensures N s) c.is_exhausted.result c.is_exhausted.ensures c.if-is_exhausted.false _ c.halve-left.result c.halve-left.ensures c.if-left-n.false
