use Rattle.std.proofs.Common.{refl}
use lib.Ieee.{of_bits, round}
use Rattle.fmpass.specs.State.{run_in}
use Rattle.refine.specs.Passes.{pass_leads}
use Rattle.refine.proofs.one_pass.Goals as goal

pub run_on-requires : goal.run_on-requires
unfolding of_bits
run_on-requires c = c.start_pass.ensures.starts.stands _ _ c.requires.3

pub returns-clause-leads : goal.returns-clause-leads
unfolding of_bits round
returns-clause-leads c =
    let a = c.args in
    let g = a.layout.now in
    let s = c.start_pass in
    let p = c.run_on in
    pass_leads g.net_weights.now g.vertex_weights.now g.nets g.vertices g.sides g.net_count a.most_weight a.split.now.words.now _ _ _ a.split.now.part.now _ _ _
    a.split.now.loads _ _ _ _ _ _ _ _ _ a.draws.now s.new.draws (run_in p.new.pass p.new.draws) _ c.requires.0 c.requires.3 s.ensures.sides
    s.ensures.starts p.ensures.ran c.roll_back.ensures.rolled refl
