use borrow.Author.Rules.{rules}
use Rattle.nodebits.specs.Stepped.{over_front, sizes_are, works_are}
use Rattle.nodebits.specs.Bits.{leaf_size}
use native.Mathlib.Omega.{arith}
use mathlib.Core.Path.{sym, ◌∙◌}
use Rattle.nodebits.proofs.node_bits.Goals as goal

pub inner_bits-requires : goal.inner_bits-requires
inner_bits-requires c = let a = c.args in (c.requires.0.inner, search rules, search rules, λ i h. over_front a.sizes.now c.leaf_bits.new.sizes (leaf_size a.effective.now a.counts.now a.legs.now) a.n (omega (arith, c.requires.1)) c.leaf_bits.ensures.0 i h ∙ sym (c.requires.0.leaves i h))

pub returns : goal.returns
returns c = let a = c.args in (sizes_are a.w a.n a.counts.now a.legs.now a.kids.now a.order.now a.sets.now a.effective.now a.sizes.now a.works.now c.leaf_bits.new.sizes c.leaf_bits.new.works c.inner_bits.new.sizes c.inner_bits.new.works c.requires.0.inner.steps c.requires.1 c.requires.2 c.leaf_bits.ensures.0 c.leaf_bits.ensures.1 c.inner_bits.ensures, works_are a.w a.n a.counts.now a.legs.now a.kids.now a.order.now a.sets.now a.effective.now a.sizes.now a.works.now c.leaf_bits.new.sizes c.leaf_bits.new.works c.inner_bits.new.sizes c.inner_bits.new.works c.requires.0.inner.steps c.requires.1 c.requires.2 c.leaf_bits.ensures.0 c.leaf_bits.ensures.1 c.inner_bits.ensures)
