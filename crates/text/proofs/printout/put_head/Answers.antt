use Rattle.text.specs.Lines.{head_put}
use native.Mathlib.Omega.{arith}
use Rattle.text.proofs.printout.put_head.Goals as goal

pub returns : goal.returns
returns c = record {
  written = head_put _ _ c.put_word.ensures c.put_number.ensures.written c.put_number-2.ensures.written c.put_word-2.ensures;
  short = omega (arith, c.put_word.ensures.put.past, c.put_number.ensures.short, c.put_number-2.ensures.short, c.put_word-2.ensures.put.past);
}
