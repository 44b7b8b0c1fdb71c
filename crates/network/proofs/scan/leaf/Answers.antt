use Rattle.std.proofs.Common.{ap, ◌∙◌, take, drop, ◌+◌, ◌-◌, ◌*◌}
use Rattle.network.specs.Checks.{row_part}
use Rattle.network.proofs.scan.leaf.Goals as goal

pub returns : goal.returns
returns c = ap (λ k. take (c.args.i * 32 + k - c.args.i * 32) (drop (c.args.i * 32) c.args.legs.now)) c.from.ensures ∙ row_part _ c.requires
