use Rattle.growth.specs.Links.{linked_pins}
use Rattle.spec.specs.Floats.{whole_float}
use Rattle.slots.specs.Rising.{rising_of, listed_fits, listed_all}
use Rattle.std.proofs.Common.{ℕ, ◌+◌, ap, sym, ◌∙◌, length-take-le}
use Rattle.growth.proofs.link_net.Goals as goal

pub slice_bounds-link_pins-end : goal.slice_bounds-link_pins-end
slice_bounds-link_pins-end c = let a = c.args in let m = c.members-len in listed_fits a.words.now a.pins.now _ 2 (a.nets + a.e) m.result m.ensures.0 m.ensures.1 c.requires.2

pub returns : goal.returns
returns c =
    let a = c.args in let m = c.members-len in
    c.link_pins.ensures ∙ ap (λ l. linked_pins (whole_float c.get_or-w.result) l a.links.now) (listed_all a.words.now a.pins.now _ 2 (a.nets + a.e) m.result m.ensures.0 m.ensures.1 c.requires.2) ∙ ap (λ (w : ℕ). linked_pins (whole_float w) (rising_of a.words.now 2 (a.nets + a.e)) a.links.now) c.get_or-w.ensures

pub slice_bounds-link_pins-end-2 : goal.slice_bounds-link_pins-end-2
slice_bounds-link_pins-end-2 c = let a = c.args in let m = c.members-len in sym (length-take-le m.result m.new.out (listed_fits a.words.now a.pins.now _ 2 (a.nets + a.e) m.result m.ensures.0 m.ensures.1 c.requires.2))
