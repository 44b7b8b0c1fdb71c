use Rattle.std.proofs.Common.{rules, Err, Ok}
use Rattle.tables.specs.Lists.{coded, chosen_code}
use Rattle.rows.specs.Rows.{least_none, least_next, least_sticks}
use native.Mathlib.Omega.{arith}
use Prim.Native.Nat.{◌+◌}
use mathlib.Core.Path.{◌≡◌, refl, sym, ap, ◌∙◌}
use lib.ListN.{length}
use Rattle.rows.proofs.Pairs.least.Goals as goal

pub loop-table-init : goal.loop-table-init
loop-table-init c = let d = c.args in least_none d.self.now.sizes.now d.self.now.start (coded d.self.now.rows.now) d.live.now

pub returns-in_err-best : goal.returns-in_err-best
returns-in_err-best c = let d = c.args in
    let l = c.loop-table in
    let z : c.better.result ≡ Err c.in_err-best.field-0.0 = search rules in
    let e : c.from_residual.result ≡ Err c.in_err-best.field-0.0 = search rules in
    ap chosen_code e
    ∙ least_sticks d.self.now.sizes.now d.self.now.start (coded d.self.now.rows.now) d.live.now (l.table-index + 1) (length d.live.now) (omega arith)
    (sym (least_next d.self.now.sizes.now d.self.now.start (coded d.self.now.rows.now) d.live.now l.table-index _ 257 _ l.invariant refl (ap chosen_code (sym z) ∙ c.better.ensures)))

pub loop-table-preserved : goal.loop-table-preserved
loop-table-preserved c = let d = c.args in
    let l = c.loop-table in
    let z : c.better.result ≡ Ok c.in_ok-best.best = search rules in
    least_next d.self.now.sizes.now d.self.now.start (coded d.self.now.rows.now) d.live.now l.table-index _ _ _ l.invariant refl (ap chosen_code (sym z) ∙ c.better.ensures)
