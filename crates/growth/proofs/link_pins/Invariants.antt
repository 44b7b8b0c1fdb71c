use Rattle.growth.specs.Links.{linked_pins}
use Rattle.spec.specs.Floats.{whole_float}
use Rattle.std.proofs.Common.{◌≡◌, take}
use Rattle.growth.proofs.link_pins.Given as goal

abbrev pub invariant-loop-u : goal.invariant-loop-u
invariant-loop-u l = l.links ≡ linked_pins (whole_float l.w) (take l.u-index l.pins) l.initial.links
