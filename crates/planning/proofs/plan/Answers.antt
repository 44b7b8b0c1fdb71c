use Rattle.planning.specs.Sound.{handed_out}
use Rattle.planning.specs.Printing.{bytes_told, bytes_refused}
use Rattle.planning.proofs.plan.Goals as goal

pub returns-in-Ok-clause-bytes : goal.returns-in-Ok-clause-bytes
returns-in-Ok-clause-bytes c = (bytes_told c.args.file.now c.plan_file.ensures c.in-Ok.is).0.bytes

pub returns-in-Ok-clause-count : goal.returns-in-Ok-clause-count
returns-in-Ok-clause-count c = let (w, few) = bytes_told c.args.file.now c.plan_file.ensures c.in-Ok.is in (w.count, few)

pub returns-in-Ok-clause-sound : goal.returns-in-Ok-clause-sound
returns-in-Ok-clause-sound c = let w = (bytes_told c.args.file.now c.plan_file.ensures c.in-Ok.is).0 in λ fits. handed_out c.args.file.now c.args.out.now _ _ w.bytes w.count fits

pub returns-in-Err-clause-bytes : goal.returns-in-Err-clause-bytes
returns-in-Err-clause-bytes c = (bytes_refused c.args.file.now c.plan_file.ensures c.in-Err.is c.put_refusal.ensures.written).bytes

pub returns-in-Err-clause-count : goal.returns-in-Err-clause-count
returns-in-Err-clause-count c = ((bytes_refused c.args.file.now c.plan_file.ensures c.in-Err.is c.put_refusal.ensures.written).count, c.put_refusal.ensures.short)

pub returns-in-Err-clause-sound : goal.returns-in-Err-clause-sound
returns-in-Err-clause-sound c = let w = bytes_refused c.args.file.now c.plan_file.ensures c.in-Err.is c.put_refusal.ensures.written in λ fits. handed_out c.args.file.now c.args.out.now _ _ w.bytes w.count fits
