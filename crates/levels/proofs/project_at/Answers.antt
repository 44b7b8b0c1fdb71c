use mathlib.Core.List.{map}
use lib.ListN.{length, take, length-map}
use lib.Seq.{take_at}
use Rattle.spec.specs.Hypergraph.{side_of}
use Rattle.levels.specs.Spans.{span, span_length, copied_front}
use native.Mathlib.Omega.{arith}
use Prim.Native.Nat.{◌+◌, ◌*◌}
use mathlib.Core.Path.{◌≡◌, ap, ◌∙◌}
use Rattle.levels.proofs.project_at.Goals as goal

pub returns : goal.returns
returns c =
    let a = c.args in
    let s = span (a.level * 128) (a.level * 128 + a.n) a.places.now in
    let e : length s ≡ a.n = span_length (a.level * 128) a.n a.places.now (omega (arith, c.requires.0, c.requires.1, c.requires.4)) in
    take_at _ _ a.n (ap length c.project.ensures ∙ length-map s _ ∙ e)
    ∙ c.project.ensures
    ∙ ap (λ k. map (side_of k) s)
    (ap (take a.coarse) c.copy.ensures ∙ copied_front _ a.part.now a.coarse (omega (arith, c.requires.1, c.requires.3)) (omega (arith, c.requires.2, c.requires.3)))
