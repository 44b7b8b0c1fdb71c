use Rattle.nodesets.specs.Turns.{slot_in}
use Rattle.slicing.specs.Nodes.{tables_small, tables_next}
use Rattle.std.proofs.Common.{get_or-take, length-take-le}
use native.Mathlib.Omega.{arith}
use Rattle.slicing.proofs.tallies.add_sizes.Goals as goal

pub add_size-requires : goal.add_size-requires
add_size-requires c =
    let l = c.loop-v in
    let a = c.args in
    let h = length-take-le a.m a.sizes.now c.requires.sizes_in in (
      omega (arith, l.invariant.same, c.requires.fits),
      slot_in _ _ _ _ (omega (arith, h)) c.requires.room,
      tables_small a.target c.requires l.v l.sums (λ v. omega (arith, c.type_inv.sizes v)) (omega (arith, h)) l.invariant,
    )

pub loop-v-preserved : goal.loop-v-preserved
loop-v-preserved c =
    let l = c.loop-v in
    let a = c.args in
    let h = length-take-le a.m a.sizes.now c.requires.sizes_in in
    tables_next a.target c.requires l.v _ l.sums _ (get_or-take a.m a.sizes.now l.v 0 (omega (arith, h))) l.invariant c.add_size.ensures
