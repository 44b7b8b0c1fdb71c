use Rattle.std.proofs.Common.{sym, ap, ◌∙◌, ◌+◌, arith}
use lib.Ieee.{of_bits}
use Rattle.queue.specs.Queues.{stamp_at}
use Rattle.fm.specs.Again.{again_entered}
use Rattle.fm.proofs.enter_again.Goals as goal

pub overflow_add-stamp : goal.overflow_add-stamp
unfolding of_bits
overflow_add-stamp c =
    let a = c.args in
    record { fits = omega (arith, c.requires.2 a.u, stamp_at a.entries.now a.u, ap (λ s. s.stamp) c.get_or-stamp.ensures) }

pub returns : goal.returns
unfolding of_bits
returns c =
    let a = c.args in
    again_entered a.graph.now.words.now a.graph.now.place a.graph.now.weights.now a.locked a.u (c.get_or-stamp.result.stamp + 1) _ _ c.requires.0
    (sym c.has.ensures ∙ c.if-has.false) (ap (λ s. s.stamp + 1) c.get_or-stamp.ensures ∙ ap (λ s. s + 1) (sym (stamp_at a.entries.now a.u))) c.enter.ensures
