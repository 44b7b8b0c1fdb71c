use Rattle.std.proofs.Common.{refl}
use Rattle.fmpass.specs.First.{no_first, first_off, first_stays, first_moves}
use Rattle.fmpass.proofs.turn.Goals as goal

pub returns-in_default-clause-turned : goal.returns-in_default-clause-turned
returns-in_default-clause-turned c =
    let a = c.args in
    no_first a.layout.now a.work.now a.entries.now a.pass.now a.draws.now c.requires a.layout.now.net_weights.now a.most_weight c.in_default.ensures.first

pub make_move-requires : goal.make_move-requires
make_move-requires c =
    let a = c.args in
    let s = c.in-Some in
    first_off a.layout.now a.work.now a.entries.now a.pass.now a.draws.now c.requires s.v s.ensures.first s.ensures.below _ _ refl

pub returns-then-fits-clause-turned : goal.returns-then-fits-clause-turned
returns-then-fits-clause-turned c =
    let a = c.args in
    let s = c.in-Some in
    first_moves a.layout.now a.work.now a.entries.now a.pass.now a.draws.now c.requires s.v s.ensures.first s.ensures.below _ _ refl a.layout.now.net_weights.now a.most_weight
    c.fits.result c.fits.ensures _ _ c.if-fits.true (c.make_move.ensures.made a.most_weight)

pub returns-clause-turned : goal.returns-clause-turned
returns-clause-turned c =
    let a = c.args in
    let s = c.in-Some in
    first_stays a.layout.now a.work.now a.entries.now a.pass.now a.draws.now c.requires s.v s.ensures.first s.ensures.below _ _ refl a.layout.now.net_weights.now a.most_weight
    c.fits.result c.fits.ensures c.if-fits.false
