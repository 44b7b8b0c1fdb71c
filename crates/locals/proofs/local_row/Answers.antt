use Rattle.locals.specs.Locals.{local_test}
use Rattle.locals.specs.Turns.{row_with}
use native.Mathlib.Omega.{arith}
use mathlib.Core.List.{[], ◌∷◌}
use Rattle.locals.proofs.local_row.Goals as goal

pub returns : goal.returns
returns c = let a = c.args in
    row_with (0 ∷ 0 ∷ []) (local_test a.sets.now a.w a.node a.local.now a.c) c.put_local.new.row (omega arith) c.put_local.ensures
