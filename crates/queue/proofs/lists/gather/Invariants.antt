use Rattle.std.proofs.Common.{◌≡◌, ◌<◌, ℕ, length, get_or}
use Rattle.queue.specs.Apart.{entry_apart}
use Rattle.queue.specs.Queues.{no_entry}
use Rattle.queue.proofs.lists.gather.Given as goal

abbrev pub invariant-loop-v : goal.invariant-loop-v
invariant-loop-v l = (length l.entries ≡ length l.initial.entries)
    × ((u : ℕ) → u < l.v → get_or l.entries u no_entry ≡ entry_apart l.keys l.stamps l.waiting u)
