use Rattle.std.proofs.Common.{arith}
use Rattle.laws.specs.LayoutLaws.{map_range_is}
use Rattle.queue.specs.Apart.{entry_apart}
use Rattle.queue.specs.Queues.{no_entry}
use Rattle.queue.proofs.lists.gather.Goals as goal

pub returns : goal.returns
returns c =
    let a = c.args in
    let l = c.loop-v in
    map_range_is (entry_apart a.keys.now a.stamps.now a.waiting.now) no_entry _ l.entries l.invariant.0 (λ u h. l.invariant.1 u (omega (arith, c.loop-v-test.false, l.invariant.0)))
