use Rattle.queue.specs.Open.{open_word}
use Rattle.queue.proofs.open_word.Goals as goal

pub returns : goal.returns
returns c = let a = c.args in open_word a.words.now a.sides a.k c.get_or.result c.get_or-2.result c.get_or-3.result c.get_or.ensures c.get_or-2.ensures c.get_or-3.ensures
