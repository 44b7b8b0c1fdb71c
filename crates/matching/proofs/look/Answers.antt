use Rattle.matching.specs.Choices.{choice_of, looked, looked_better, looked_light}
use Rattle.std.specs.Prelude.{Some}
use Rattle.std.proofs.Common.{ℕ, ◌≡◌, subst, refl}
use Rattle.std.specs.Float.{binary64}
use Rattle.std.specs.Float.Ieee.{add, mul}
use Rattle.spec.specs.Floats.{micro, whole_float}
use lib.Ieee.{of_bits, of_int, round}
use Rattle.matching.proofs.look.Goals as goal

pub returns-then-get_or-limit : goal.returns-then-get_or-limit
unfolding of_bits of_int round
returns-then-get_or-limit c =
    let a = c.args in let b = a.best in
    subst (λ (k : ℕ). choice_of (mul binary64 c.get_or.result (add binary64 (whole_float 1) (mul binary64 micro c.unit-noise.result))) (Some k) c.put.new.list c.unit-noise.new.self ≡ looked a.vw.now a.limit a.v k (choice_of b.rating b.mate a.rating.now a.draws.now)) c.from-place.ensures
    (looked_better a.vw.now a.limit a.draws.now _ a.rating.now _ a.v c.from-place.result c.unit-noise.result c.get_or.result b.rating b.mate c.unit-noise.ensures.value c.unit-noise.ensures.words c.get_or.ensures c.put.ensures _ c.get_or-then-best-x.result c.get_or-then-best-x-2.result refl c.get_or-then-best-x.ensures c.get_or-then-best-x-2.ensures c.if-best-x.true c.if-get_or-limit.true)

pub returns-else-best-x : goal.returns-else-best-x
unfolding of_bits of_int round
returns-else-best-x c =
    let a = c.args in let b = a.best in
    subst (λ (k : ℕ). choice_of b.rating b.mate c.put.new.list c.unit-noise.new.self ≡ looked a.vw.now a.limit a.v k (choice_of b.rating b.mate a.rating.now a.draws.now)) c.from-place.ensures
    (looked_light a.vw.now a.limit a.draws.now _ a.rating.now _ a.v c.from-place.result c.unit-noise.result c.get_or.result b.rating b.mate c.unit-noise.ensures.value c.unit-noise.ensures.words c.get_or.ensures c.put.ensures _ refl c.if-best-x.false)
