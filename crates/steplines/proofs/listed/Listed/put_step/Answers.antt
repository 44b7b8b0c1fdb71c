use borrow.Author.Rules.{rules}
use Rattle.steplines.specs.Lines.{step_put}
use Rattle.steplines.proofs.listed.Listed.put_step.Goals as goal

pub returns-clause-written : goal.returns-clause-written
returns-clause-written c = let s = c.args.self.now in
    step_put s.steps.now s.sets.now s.width s.index_count c.args.k _ (search rules) c.put_word.ensures (rw c.row-row.ensures at c.put_numbers.ensures.written) c.put_kept.ensures.written c.put_word-2.ensures
