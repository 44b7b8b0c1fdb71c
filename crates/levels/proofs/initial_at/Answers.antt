use Rattle.std.proofs.Common.{arith, ap}
use Rattle.partition.specs.Layout.{graph_in}
use Rattle.spec.specs.Floats.{whole_float}
use Rattle.levels.specs.Spans.{front_as}
use Rattle.levels.specs.Layouts.{level_length, level_site}
use lib.Ieee.{binary64, div, of_bits, of_int, round}
use Rattle.levels.proofs.initial_at.Goals as goal

pub initial-requires : goal.initial-requires
unfolding graph_in of_bits of_int round
initial-requires c =
    let a = c.args in
    let h = c.requires.0 in
    let k = c.layout-layout.ensures in
    let e = level_length h k in (
      front_as a.level.size.vertices _ (omega (arith, h.room)) e,
      omega (arith, e, h.some_left),
      level_site h k,
      ap (λ x. div binary64 x (whole_float 2)) c.total_weight-goal.ensures,
      front_as a.level.size.vertices _ c.requires.1 e,
    )
