use Rattle.spec.specs.Memory.{filled}
use Rattle.spec.specs.Layout.{firsts}
use Rattle.slicing.specs.Weights.{unlisted_light, sliceable_fronts}
use Rattle.slicing.specs.Whole.{steps_known, tables_known, touching_most, chosen_is}
use lib.ListN.{length}
use Rattle.slicing.proofs.ranks.choose.Goals as goal

pub add_works-requires : goal.add_works-requires
unfolding filled
add_works-requires c = steps_known c.requires

pub add_sizes-requires : goal.add_sizes-requires
unfolding filled
add_sizes-requires c = tables_known c.requires

pub best-requires : goal.best-requires
unfolding filled
best-requires c =
    let a = c.args in
    let w = a.network.now.weights.now in
    let o = a.network.now.outputs.now in (
      unlisted_light (firsts (length w) w) a.flags.now o (length o) c.sliceable_weights.new.sliceable c.requires.light
          (sliceable_fronts w a.flags.now o c.sliceable_weights.new.sliceable c.sliceable_weights.ensures),
      touching_most c.requires c.add_works.new.sums c.add_works.ensures,
      c.requires.exact,
    )

pub returns : goal.returns
unfolding filled
returns c =
    let a = c.args in
    let w = a.network.now.weights.now in
    let o = a.network.now.outputs.now in
    chosen_is c.requires (length o) o a.flags.now a.target c.sliceable_weights.new.sliceable c.add_works.new.sums c.add_sizes.new.sums c.best.result
    (sliceable_fronts w a.flags.now o c.sliceable_weights.new.sliceable c.sliceable_weights.ensures) c.add_works.ensures c.add_sizes.ensures c.best.ensures
