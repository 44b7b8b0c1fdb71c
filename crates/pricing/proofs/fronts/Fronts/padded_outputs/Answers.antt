use Rattle.pricing.specs.Fronts.{padded_front}
use Rattle.pricing.proofs.fronts.Fronts.padded_outputs.Goals as goal

pub returns : goal.returns
returns c =
    let s = c.args.self.now in
    padded_front s.o 32 s.outputs.now _ c.requires.outputs c.copy.ensures
