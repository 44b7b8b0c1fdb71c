use Rattle.std.proofs.Common.{length-take-le}
use Rattle.greedynodes.specs.Networks.{accepted_light, accepted_room}
use native.Mathlib.Omega.{arith}
use lib.ListN.{take}
use Rattle.bisect.proofs.ends.unsplit_in.Goals as goal

pub unsplit-requires-clause-room : goal.unsplit-requires-clause-room
unsplit-requires-clause-room c =
    let d = c.args in
    accepted_room d.network.now d.count d.leaves.now (take 1036 d.ws.now) c.requires.1 (omega (arith, length-take-le 1036 d.ws.now c.requires.0)) c.requires.2

pub unsplit-requires-clause-light : goal.unsplit-requires-clause-light
unsplit-requires-clause-light c = accepted_light c.args.network.now
