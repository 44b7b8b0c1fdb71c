use borrow.Author.Tests.{not-true, not-false}
use Rattle.tables.specs.Lists.{code, not_coded}
use Rattle.live.specs.Common.{shares}
use Rattle.live.specs.Merged.{pair_bits}
use Rattle.scores.specs.Scores.{over_forty, lesser_of, consider_refused, consider_apart, consider_over, consider_table, consider_lesser}
use native.Mathlib.Omega.{arith}
use Prim.Native.Nat.{ℕ}
use mathlib.Core.Path.{◌≡◌, sym, ap, ap₂, ◌∙◌}
use Rattle.std.proofs.Common.{rules}
use Rattle.std.proofs.lemmas.Bool.{not_from_true, not_from_false}
use Rattle.scores.proofs.consider.Goals as goal

pub returns-then-eq : goal.returns-then-eq
returns-then-eq c = let d = c.args in
    let s = d.scoring.now in
    let wide : d.best ≡ record { number = 257 } = search rules in
    consider_refused d.sets.now s.width s.weights.now d.sizes.now s.start d.y (code d.best) d.x (ap code wide)

pub returns-then-not-share : goal.returns-then-not-share
returns-then-not-share c = let d = c.args in
    let s = d.scoring.now in
    let narrow = not_coded d.best 257 (λ wide. search rules) in
    let e = c.share.ensures ∙ ap (λ (i : ℕ). shares d.sets.now s.width i d.y) c.from-left.ensures in
    consider_apart d.sets.now s.width s.weights.now d.sizes.now s.start d.y (code d.best) d.x narrow (sym e ∙ not-true _ (not_from_false _ c.if-not-share.true))

pub returns-then-bits-gt40 : goal.returns-then-bits-gt40
returns-then-bits-gt40 c = let d = c.args in
    let s = d.scoring.now in
    let narrow = not_coded d.best 257 (λ wide. search rules) in
    let e = c.share.ensures ∙ ap (λ (i : ℕ). shares d.sets.now s.width i d.y) c.from-left.ensures in
    let m = c.merged_size-bits.ensures ∙ ap (λ (i : ℕ). pair_bits d.sets.now s.width s.weights.now i d.y) c.from-left.ensures in
    c.from.ensures ∙ consider_over d.sets.now s.width s.weights.now d.sizes.now s.start d.y (code d.best) d.x narrow (sym e ∙ not-false _ (not_from_true _ c.if-not-share.false)) (omega (arith, m))

pub returns-then-too_wide : goal.returns-then-too_wide
returns-then-too_wide c = let d = c.args in
    let s = d.scoring.now in
    let narrow = not_coded d.best 257 (λ wide. search rules) in
    let e = c.share.ensures ∙ ap (λ (i : ℕ). shares d.sets.now s.width i d.y) c.from-left.ensures in
    let w = c.too_wide.ensures ∙ ap (λ (i : ℕ). over_forty d.sizes.now i d.y) c.from-left.ensures in
    c.from-then-too_wide.ensures ∙ consider_table d.sets.now s.width s.weights.now d.sizes.now s.start d.y (code d.best) d.x narrow (sym e ∙ not-false _ (not_from_true _ c.if-not-share.false)) (sym w ∙ c.if-too_wide.true)

pub returns : goal.returns
returns c = let d = c.args in
    let s = d.scoring.now in
    let narrow = not_coded d.best 257 (λ wide. search rules) in
    let e = c.share.ensures ∙ ap (λ (i : ℕ). shares d.sets.now s.width i d.y) c.from-left.ensures in
    let w = c.too_wide.ensures ∙ ap (λ (i : ℕ). over_forty d.sizes.now i d.y) c.from-left.ensures in
    let m = c.merged_size-bits.ensures ∙ ap (λ (i : ℕ). pair_bits d.sets.now s.width s.weights.now i d.y) c.from-left.ensures in
    c.lesser.ensures
    ∙ ap₂ (λ (x b : ℕ). lesser_of d.sizes.now s.start d.y (code d.best) x b) c.from-left.ensures m
    ∙ consider_lesser d.sets.now s.width s.weights.now d.sizes.now s.start d.y (code d.best) d.x narrow (sym e ∙ not-false _ (not_from_true _ c.if-not-share.false)) (omega (arith, m)) (sym w ∙ c.if-too_wide.false)
