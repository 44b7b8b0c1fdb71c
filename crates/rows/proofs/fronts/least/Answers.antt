use Rattle.std.proofs.Common.{rules, Err, Ok, ◌≡◌, sym, ap, ◌∙◌, ◌+◌, arith}
use Rattle.tables.specs.Lists.{coded, chosen_code}
use Rattle.rows.specs.Rows.{least_none, least_next, least_sticks}
use Rattle.rows.proofs.fronts.least.Goals as goal

pub loop-k-init : goal.loop-k-init
loop-k-init c =
    let p = c.args.pairs.now in
    (omega arith, least_none p.sizes.now p.start (coded p.rows.now) c.args.live.now)

pub returns-in_err-best : goal.returns-in_err-best
returns-in_err-best c =
    let d = c.args in
    let p = d.pairs.now in
    let l = c.loop-k in
    let z : c.better.result ≡ Err c.in_err-best.field-0.0 = search rules in
    let e : c.from_residual.result ≡ Err c.in_err-best.field-0.0 = search rules in
    ap chosen_code e
    ∙ least_sticks p.sizes.now p.start (coded p.rows.now) d.live.now (l.k + 1) d.m (omega arith)
    (sym (least_next p.sizes.now p.start (coded p.rows.now) d.live.now l.k _ 257 _ l.invariant.1 c.get_or.ensures (ap chosen_code (sym z) ∙ c.better.ensures)))

pub loop-k-preserved : goal.loop-k-preserved
loop-k-preserved c =
    let d = c.args in
    let p = d.pairs.now in
    let l = c.loop-k in
    let z : c.better.result ≡ Ok c.in_ok-best.best = search rules in
    (omega arith, least_next p.sizes.now p.start (coded p.rows.now) d.live.now l.k _ _ _ l.invariant.1 c.get_or.ensures (ap chosen_code (sym z) ∙ c.better.ensures))
