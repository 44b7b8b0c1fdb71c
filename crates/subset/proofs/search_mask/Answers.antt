use Rattle.subset.specs.Entries.{entry_single, entry_passed, entry_searched, over, within, full, tried_is}
use Rattle.spec.specs.Improve.{over_limit}
use Rattle.masks.specs.Tables.{work_at}
use Rattle.subset.specs.Walk.{best_at}
use lib.Bits.{bit_and, and_le_l}
use native.Mathlib.Omega.{arith}
use Prim.Native.Nat.{ℕ, ◌-◌}
use mathlib.Core.Path.{sym, ap, ◌∙◌}
use lib.ListN.{length}
use Rattle.subset.proofs.search_mask.Goals as goal
use Rattle.subset.proofs.search_mask.Goals.{then-s-len+else-is_over, else-s-len}

pub returns-then-rest-eq0 : goal.returns-then-rest-eq0
returns-then-rest-eq0 c = let a = c.args in entry_single (best_at a.cost.now) (work_at a.tables.now.kept.now a.tables.now.planes.weights.now) (length a.tables.now.bits.now) a.limit a.s c.if-rest-eq0.true

pub returns-then-is_over : goal.returns-then-is_over
returns-then-is_over c = let a = c.args in let t = a.tables.now in
    entry_passed (best_at a.cost.now) (work_at t.kept.now t.planes.weights.now) (length t.bits.now) a.limit a.s c.if-rest-eq0.false
    (over (best_at a.cost.now) (work_at t.kept.now t.planes.weights.now) (length t.bits.now) a.limit a.s (omega (arith, c.if-s-len.true, c.len.ensures.0))
    (ap (λ (x : ℕ). over_limit x a.limit) (sym c.bits.ensures) ∙ sym c.is_over.ensures ∙ c.if-is_over.true))

pub returns : goal.returns
returns c = let a = c.args in let t = a.tables.now in let B = best_at a.cost.now in let W = work_at t.kept.now t.planes.weights.now in let n : ℕ = length t.bits.now in
    entry_searched B W n a.limit a.s c.if-rest-eq0.false
    (elim c.if-s-len.branch [
      | then-s-len+else-is_over k ↦ within B W n a.limit a.s (ap (λ (x : ℕ). over_limit x a.limit) (sym k.bits.ensures) ∙ sym k.is_over.ensures ∙ k.if-is_over.false)
      | else-s-len k ↦ full B W n a.limit a.s (omega (arith, k.if-s-len.false, c.len.ensures.0))
    ])
    c.cheapest_split-found.result _ c.cheapest_split-found.ensures
    (ap (λ (x : ℕ). x - 1) (tried_is (bit_and a.s (a.s - 1)) c.count_ones.result c.count_ones.ensures.0 (omega (arith, and_le_l a.s (a.s - 1), c.len.ensures.0, c.len.ensures.1))))
