use Rattle.queue.specs.Apart.{entered_apart}
use Rattle.queue.proofs.lists.enter.Goals as goal

pub returns : goal.returns
returns c =
    let a = c.args in
    entered_apart a.graph.now.words.now a.graph.now.place a.graph.now.weights.now a.stamp a.v a.keys.now a.stamps.now a.waiting.now a.draws.now _ _ _ _ _ _ _
    c.gain-gain.ensures c.unit.ensures.value c.key_of-key.ensures c.put.ensures c.put-2.ensures c.put-3.ensures c.unit.ensures.words
