use Rattle.std.proofs.Common.{◌≡◌, ℕ, ◌<◌, List, not, cond, eqb, length, get_or, take, sym, ap, ap₂, ◌∙◌, arith}
use Rattle.std.proofs.lemmas.List.{length_push, get_or-take, length-take-le}
use Rattle.std.proofs.lemmas.Slice.Zip.{zip_turn, zip_end}
use Rattle.spec.specs.Lists.{range, sum_of}
use Rattle.pricing.specs.Sums.{slice_share, slice_next, slice_end, slice_light}
use Rattle.pricing.proofs.slice_bits.Goals as goal

pub loop-flag-preserved : goal.loop-flag-preserved
loop-flag-preserved c =
    let a = c.args in
    let l = c.loop-flag in
    let k : ℕ = length l.yielded in
    let front : List ℕ = take a.m a.weights.now in
    let z = zip_turn a.flags.now front l.yielded c.into_iter-flag-iterator.result l.flag-iterator c.next.new.self c.next.result (cc) (cc) l.yielded_by (c.in-Some.field-0-0, c.in-Some.field-0-1) c.in-Some.is c.next.ensures.steps in
    let m : length front ≡ a.m = length-take-le a.m a.weights.now (omega (arith, c.requires.0)) in
    let b : k < a.m = omega (arith, m, z.1) in
    let w : c.in-Some.field-0-1.now ≡ get_or a.weights.now k 0 = z.3 0 ∙ get_or-take a.m a.weights.now k 0 (omega arith) in
    let e : c.from-sum.result ≡ slice_share a.weights.now a.flags.now k =
    c.from-sum.ensures ∙ c.share.ensures.0 ∙ ap₂ (λ (f x : ℕ). cond (not (eqb f 0)) x 0) (z.2 0) w in
    let p = length_push l.yielded (c.in-Some.field-0-0, c.in-Some.field-0-1) in (
      slice_next a.weights.now a.flags.now k l.sum c.from-sum.result l.invariant.0 e ∙ ap (λ (j : ℕ). sum_of (slice_share a.weights.now a.flags.now) (range j)) (sym p),
      omega (arith, p, w, l.invariant.1, c.from-sum.ensures, c.share.ensures.1, slice_light a.weights.now a.m k c.requires.2 b),
    )

pub returns : goal.returns
returns c =
    let a = c.args in
    let l = c.loop-flag in
    let front : List ℕ = take a.m a.weights.now in
    let z = zip_end a.flags.now front l.yielded c.into_iter-flag-iterator.result l.flag-iterator c.next.new.self c.next.result (cc) (cc) l.yielded_by c.in-None.is c.next.ensures.steps in
    slice_end a.weights.now a.flags.now (length l.yielded) a.m l.sum (omega (arith, z, length-take-le a.m a.weights.now (omega (arith, c.requires.0)))) l.invariant.0
