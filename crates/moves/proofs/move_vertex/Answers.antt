use Rattle.std.proofs.Common.{refl, ◌∙◌, length}
use lib.Ieee.{of_bits}
use Rattle.moves.specs.Split.{move_is}
use Rattle.moves.proofs.move_vertex.Goals as goal

pub returns : goal.returns
unfolding of_bits
returns c =
    let a = c.args in
    let vw = a.vw.now in
    move_is a.words.now _ _ a.sides (length vw) a.part.now a.v c.from-s.result c.saturating_sub-t.result c.requires.2 c.requires.1 c.requires.3
    c.requires.4 (c.from-s.ensures ∙ c.get_or.ensures) c.saturating_sub-t.ensures c.insert.ensures c.subtract.ensures vw a.loads.now _ _ _ c.get_or-x.result c.get_or-a.result c.get_or-b.result refl
    c.get_or-x.ensures c.get_or-a.ensures c.get_or-b.ensures c.put.ensures c.put-2.ensures c.put-3.ensures
