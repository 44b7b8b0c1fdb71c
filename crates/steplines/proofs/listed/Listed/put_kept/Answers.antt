use Rattle.steplines.specs.Lines.{kept_length, kept_none, kept_more}
use Rattle.slots.specs.Slots.{held}
use native.Mathlib.Omega.{arith}
use Rattle.steplines.proofs.listed.Listed.put_kept.Goals as goal

pub loop-j-init : goal.loop-j-init
loop-j-init c = let s = c.args.self.now in
    record { within = omega arith; written = kept_none _ (held s.sets.now s.width c.args.v) }

pub put_member-requires : goal.put_member-requires
put_member-requires c = let s = c.args.self.now in
    omega (arith, c.loop-j.invariant.written.put.past, kept_length (held s.sets.now s.width c.args.v) c.loop-j.j (omega arith))

pub loop-j-preserved : goal.loop-j-preserved
loop-j-preserved c = let s = c.args.self.now in
    record { within = omega arith; written = kept_more (held s.sets.now s.width c.args.v) c.loop-j.j c.loop-j.invariant.written c.put_member.ensures }

pub returns-clause-short : goal.returns-clause-short
returns-clause-short c = let s = c.args.self.now in
    omega (arith, c.loop-j.invariant.written.put.past, kept_length (held s.sets.now s.width c.args.v) c.loop-j.j (omega arith))
