use Rattle.std.proofs.Common.{length-take-le}
use Rattle.greedynodes.specs.Networks.{accepted_light, accepted_room}
use native.Mathlib.Omega.{arith}
use lib.ListN.{take}
use Rattle.greedynodes.proofs.plan_leaves.Goals as goal

pub greedy_nodes-requires-clause-room : goal.greedy_nodes-requires-clause-room
greedy_nodes-requires-clause-room c =
    let d = c.args in
    accepted_room d.network.now d.count d.leaves.now (take 1036 d.words.now) c.requires.1 (omega (arith, length-take-le 1036 d.words.now c.requires.0)) c.requires.2

pub greedy_nodes-requires-clause-light : goal.greedy_nodes-requires-clause-light
greedy_nodes-requires-clause-light c = accepted_light c.args.network.now
