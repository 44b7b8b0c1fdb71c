use borrow.Author.Rules.{rules}
use Rattle.std.proofs.Common.{◌≡◌, ℕ, length, [], refl, ap, ◌∙◌, arith}
use Rattle.slots.specs.Weigh.{open_weight}
use Rattle.spec.specs.Lists.{sum_of}
use Rattle.spec.specs.Memory.{over, filled}
use Rattle.laws.specs.LayoutLaws.{firsts_length}
use Rattle.cells.specs.Cells.{filled_none, filled_next, copied_none}
use Rattle.nodebits.specs.Loops.{put_next, put_end}
use Rattle.nodebits.specs.Bits.{leaf_size}
use Rattle.nodebits.proofs.leaf_bits.Goals as goal

pub loop-i-init : goal.loop-i-init
loop-i-init c = (refl, refl, copied_none _ _, filled_none _ _)

pub leaf_size-size-requires : goal.leaf_size-size-requires
leaf_size-size-requires c = (omega (arith, ap length c.leaf.ensures ∙ firsts_length _ _, c.requires.0.few c.loop-i.i (omega arith)), c.requires.1)

pub loop-i-preserved : goal.loop-i-preserved
loop-i-preserved c =
    let d = c.args in
    let l = c.loop-i in
    let e : c.leaf_size-size.result ≡ leaf_size d.effective.now d.counts.now d.legs.now l.i = c.leaf_size-size.ensures.0 ∙ ap (sum_of (open_weight d.effective.now [])) c.leaf.ensures in
    (search rules, search rules, put_next d.sizes.now l.sizes (leaf_size d.effective.now d.counts.now d.legs.now) d.n l.i c.leaf_size-size.result (omega arith) l.invariant.2 e, filled_next _ _ _ l.invariant.3)

pub returns : goal.returns
returns c =
    let d = c.args in
    let l = c.loop-i in
    let e : l.i ≡ d.n = omega arith in
    (put_end d.sizes.now l.sizes (leaf_size d.effective.now d.counts.now d.legs.now) d.n l.i e l.invariant.2, l.invariant.3 ∙ ap (λ (x : ℕ). over d.works.now (filled x 0)) e)
