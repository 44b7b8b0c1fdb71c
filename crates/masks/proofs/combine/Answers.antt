use Rattle.masks.specs.Rows.{row_op}
use Rattle.masks.proofs.combine.Goals as goal

pub returns : goal.returns
returns g c = rw (c.apply.ensures, c.apply-2.ensures) (row_op g.O.WordOp.op g.O.WordOp.on_members g.met.O.WordOp.digits c.args.a c.args.b)
