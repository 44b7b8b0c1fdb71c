use Rattle.growth.specs.Links.{linked_nets}
use Rattle.std.proofs.Common.{◌≡◌, take, length}
use Rattle.growth.proofs.link_nets.Given as goal

abbrev pub invariant-loop-e : goal.invariant-loop-e
invariant-loop-e l = (l.links ≡ linked_nets l.words l.nets l.weights (take l.e-index l.list) l.initial.links) × (length l.pins ≡ 128)
