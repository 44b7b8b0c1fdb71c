use Rattle.coarsen.specs.Sizes.{Made}
use Rattle.std.specs.Prelude.{Bool, ℕ}
use Rattle.levels.specs.Deeper.{deeper, is_more}
use Rattle.levels.specs.Layouts.{made_level, sized_as}
use Rattle.levels.specs.Spans.{span_length}
use native.Mathlib.Omega.{arith}
use Prim.Native.Nat.{◌+◌, ◌-◌, ◌*◌}
use mathlib.Core.Path.{◌≡◌, refl, ◌∙◌}
use Rattle.levels.proofs.coarsen_lists.Goals as goal

pub returns : goal.returns
returns c =
    let a = c.args in
    let n = a.level.size.vertices in
    let l = a.level.number in
    let s = c.requires in
    let k = c.layout-layout.ensures in
    let o = c.coarsen-coarse in
    let z : n ≡ l * 128 + n - l * 128 = omega arith in
    let lp = o.auto.places ∙ span_length (l * 128) n a.places.now (omega (arith, s.low, s.room, s.places_fit)) ∙ z in
    sized_as (λ (found : Bool) (i j : ℕ) (q : Made _ _ _ _ _ _ _ o.new.draws o.new.mates _ _ o.new.words o.new.weights2 o.new.vw2 o.new.places found i j).
    let p = made_level s k q in
    is_more c.if-n-le48.false (deeper l a.level.size.nets n a.limit a.draws.now _ a.words.now a.net_weights.now a.vertex_weights.now a.places.now _ _ _ _
    found i j _ _ _ _ s c.if-n-le48.false p.same p.level
    (o.auto.weights2, o.auto.vw2, lp) c.place.ensures c.place-2.ensures refl)) o.result o.ensures
