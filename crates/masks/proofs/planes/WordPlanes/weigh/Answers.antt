use Rattle.masks.specs.Planes.{planes_word, zero_word}
use native.Mathlib.Omega.{arith}
use Rattle.masks.proofs.planes.WordPlanes.weigh.Goals as goal

pub returns-then-x-eq0 : goal.returns-then-x-eq0
returns-then-x-eq0 c = let p = c.args.self.now in λ wt base w h. zero_word wt base c.args.x p.ones p.twos p.fours p.eights w c.if-x-eq0.true h

pub returns : goal.returns
returns c = let p = c.args.self.now in λ wt base w h. planes_word wt base c.args.x p.ones p.twos p.fours p.eights _ w (omega arith) h c.from.ensures
