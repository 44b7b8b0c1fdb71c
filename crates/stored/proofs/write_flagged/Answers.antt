use Rattle.std.proofs.Common.{rules}
use Rattle.stored.proofs.Flags.{flagged_written, unflagged_passed}
use Rattle.stored.proofs.write_flagged.Goals as goal
use Rattle.stored.proofs.write_flagged.Goals.{then-flag-ne0+in_ok-write, else-flag-ne0}

pub loop-i-preserved : goal.loop-i-preserved
loop-i-preserved g c =
    let contents = g.W.Write.contents in
    let flags = c.args.flags.now in
    let i = c.loop-i.i-counter in
    let start = contents c.args.out.now in
    let after = contents c.if-flag-ne0.out in
    elim c.if-flag-ne0.branch [
      | then-flag-ne0+in_ok-write w ↦ flagged_written flags i (search rules) start (contents c.loop-i.out) c.loop-i.invariant after (search rules) (search rules)
      | else-flag-ne0 w ↦ unflagged_passed flags i (search rules) start after (search rules) (search rules)
    ]
