use Rattle.std.proofs.Common.{sym, ◌∙◌}
use Rattle.network.specs.Checks.{row_of}
use Rattle.network.specs.Layouts.{layout_legs}
use Rattle.network.specs.Views.{in_rows}
use Rattle.network.proofs.accepted.Accepted.leaf.Goals as goal

pub leaf-requires : goal.leaf-requires
leaf-requires c = row_of c.args.i (in_rows c.args.self.now c.args.self.now.holds) c.requires

pub returns : goal.returns
returns c = c.leaf.ensures ∙ sym (layout_legs _ _ _ _ _ _ _ _ c.requires)
