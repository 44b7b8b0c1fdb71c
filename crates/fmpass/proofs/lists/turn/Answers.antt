use Rattle.fmpass.specs.FirstApart.{no_first_apart, off_apart, stays_apart, moves_apart}
use Rattle.fmpass.proofs.lists.turn.Goals as goal

pub returns-in_default-clause-turned : goal.returns-in_default-clause-turned
returns-in_default-clause-turned c =
    let a = c.args in
    no_first_apart a.layout.now a.work.now a.keys.now a.stamps.now a.waiting.now a.pass.now a.draws.now c.requires a.layout.now.net_weights.now a.most_weight c.in_default.ensures.first

pub make_move-requires : goal.make_move-requires
make_move-requires c =
    let a = c.args in
    let s = c.in-Some in
    off_apart a.layout.now a.work.now a.keys.now a.stamps.now a.waiting.now a.pass.now a.draws.now c.requires s.v s.ensures.first s.ensures.below _ c.put.ensures

pub returns-then-fits-clause-turned : goal.returns-then-fits-clause-turned
returns-then-fits-clause-turned c =
    let a = c.args in
    let s = c.in-Some in
    moves_apart a.layout.now a.work.now a.keys.now a.stamps.now a.waiting.now a.pass.now a.draws.now c.requires s.v s.ensures.first s.ensures.below _ c.put.ensures
    a.layout.now.net_weights.now a.most_weight c.fits.result c.fits.ensures _ _ c.if-fits.true (c.make_move.ensures.made a.most_weight)

pub returns-clause-turned : goal.returns-clause-turned
returns-clause-turned c =
    let a = c.args in
    let s = c.in-Some in
    stays_apart a.layout.now a.work.now a.keys.now a.stamps.now a.waiting.now a.pass.now a.draws.now c.requires s.v s.ensures.first s.ensures.below _ c.put.ensures
    a.layout.now.net_weights.now a.most_weight c.fits.result c.fits.ensures c.if-fits.false
