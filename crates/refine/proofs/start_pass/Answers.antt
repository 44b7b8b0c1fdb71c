use Rattle.refine.specs.Starts.{first_placed, starts}
use Rattle.refine.proofs.start_pass.Goals as goal

pub enter_all-requires : goal.enter_all-requires
enter_all-requires c =
    let a = c.args in
    let g = a.layout.now in
    first_placed a.split.now.words.now _ g.net_weights.now g.vertex_weights.now g.nets g.vertices g.sides g.net_count a.split.now.part.now c.requires.1 c.requires.2 c.empty.ensures

pub returns-clause-starts : goal.returns-clause-starts
returns-clause-starts c =
    let a = c.args in
    let g = a.layout.now in
    starts a.split.now.words.now _ g.net_weights.now g.vertex_weights.now g.nets g.vertices g.sides g.net_count a.split.now.part.now c.requires.1 c.requires.2 c.empty.ensures
    a.entries.now _ a.draws.now _ c.requires.0 c.enter_all.auto.entries c.enter_all.ensures
