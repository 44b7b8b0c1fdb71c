use Rattle.std.proofs.Common.{sym, ap, ◌∙◌, ◌+◌, arith}
use lib.Ieee.{of_bits}
use Rattle.fm.specs.Again.{again_entered}
use Rattle.fm.proofs.lists.enter_again.Goals as goal

pub overflow_add-stamp : goal.overflow_add-stamp
unfolding of_bits
overflow_add-stamp c =
    let a = c.args in
    record { fits = omega (arith, c.requires.2 a.u, c.get_or-stamp.ensures) }

pub returns : goal.returns
unfolding of_bits
returns c =
    let a = c.args in
    again_entered a.graph.now.words.now a.graph.now.place a.graph.now.weights.now a.locked a.u (c.get_or-stamp.result + 1) _ _ c.requires.0
    (sym c.has.ensures ∙ c.if-has.false) (ap (λ s. s + 1) c.get_or-stamp.ensures) c.enter.ensures
