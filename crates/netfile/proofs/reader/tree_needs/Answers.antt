use Rattle.netfile.specs.Writes.{lack_tree}
use Rattle.netfile.proofs.reader.tree_needs.Goals as goal

pub returns-in-Some : goal.returns-in-Some
returns-in-Some c = λ places. rw c.in-Some.is (lack_tree c.args.network.now c.in-Some.field-0.now places c.saturating_sub-nodes.result c.saturating_sub-nodes.ensures)
