use Rattle.queue.specs.Enters.{entered_is}
use Rattle.queue.proofs.enter.Goals as goal

pub returns : goal.returns
returns c =
    let a = c.args in
    entered_is a.graph.now.words.now a.graph.now.place a.graph.now.weights.now a.stamp a.v a.entries.now _ a.draws.now _ _ _ _
    c.gain-gain.ensures c.unit.ensures.value c.key_of-key.ensures c.put.ensures c.unit.ensures.words
