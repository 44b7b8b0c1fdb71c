use Rattle.std.proofs.Common.{◌≡◌, length, ap, sym, ◌∙◌, drop, ◌++◌, arith, length-take}
use Rattle.std.proofs.lemmas.Grind.{common_steps}
use Rattle.cells.specs.Cells.{over_front, copied_end}
use Rattle.spec.specs.Memory.{copied, over}
use Rattle.cells.proofs.copy.Goals as goal

-- the front that is written, and the rest of `to`, are the list over `to`
pub returns : goal.returns
unfolding copied
returns g c =
    let to = c.args.to.now in
    let list = c.args.list.now in
    let written = c.copy_from_slice.new.self in
    let m = c.min-m.result in
    let n : length written ≡ m = grind (arith, common_steps, c.copy_from_slice.ensures.after, length-take m list, c.min-m.ensures, c.min.ensures) in
    let front = over_front to written (grind (arith, common_steps, n, c.min-m.ensures, c.min.ensures)) in
    let all = copied_end to list m c.args.n (c.min-m.ensures ∙ grind (arith, common_steps, c.min.ensures)) in
    ap (λ k. written ++ drop k to) (sym n) ∙ front ∙ ap (over to) c.copy_from_slice.ensures.after ∙ all
