use mathlib.Core.List.{List}
use Rattle.masks.specs.Unions.{unite_single, unite_joint}
use Rattle.masks.specs.Tables.{United}
use native.Mathlib.Omega.{arith}
use Prim.Native.Nat.{ℕ, ◌+◌}
use mathlib.Core.Path.{sym, subst}
use lib.ListN.{length}
use Rattle.masks.proofs.unions.Goals as goal
use Rattle.masks.proofs.unions.Goals.{then-rest-ne0, else-rest-ne0}

pub loop-s-preserved : goal.loop-s-preserved
loop-s-preserved c = let a = c.args in let l = c.loop-s in let n : ℕ = length a.united.now in (
  omega arith,
  omega arith,
  elim c.if-rest-ne0.branch [
    | then-rest-ne0 w ↦ subst (λ (x : List (List ℕ)). United a.united.now x n (l.s + 1)) (sym w.united-is)
        (unite_joint a.united.now l.united n l.s (omega arith) (omega arith) l.invariant.2 w.if-rest-ne0.true (omega arith) w.combine.result w.combine.ensures)
    | else-rest-ne0 w ↦ subst (λ (x : List (List ℕ)). United a.united.now x n (l.s + 1)) (sym w.united-is)
        (unite_single a.united.now l.united n l.s (omega arith) (omega arith) l.invariant.2 w.if-rest-ne0.false)
  ],
)
