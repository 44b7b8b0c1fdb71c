use borrow.Author.Rules.{rules}
use Rattle.steplines.specs.Lines.{numbers_none, numbers_more, entry_length}
use lib.ListN.{get_or}
use mathlib.Core.Path.{◌≡◌}
use Prim.Native.Nat.{◌<◌}
use native.Mathlib.Omega.{arith}
use Rattle.steplines.proofs.listed.put_numbers.Goals as goal

pub loop-x-init : goal.loop-x-init
loop-x-init c = record { written = numbers_none _ c.args.list.now; short = omega arith }

pub loop-x-preserved : goal.loop-x-preserved
loop-x-preserved c = let l = c.args.list.now in
    let i = c.loop-x.x-index in
    let e : get_or l i 0 ≡ c.from.result = search rules in
    let small : get_or l i 0 < 65536 = (c.type_inv.list i).fits in
    record {
      written = numbers_more l i c.from.result (omega arith) e c.loop-x.invariant.written c.put_number.ensures.written;
      short = omega (arith, c.put_number.ensures.written.put.past, entry_length c.from.result (omega arith));
    }
