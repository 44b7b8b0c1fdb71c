use mathlib.Core.List.{List}
use Rattle.cells.specs.Cells.{cleared_length, cleared_zero}
use Rattle.walk.specs.Wrong.{few, other_length}
use native.Mathlib.Omega.{arith}
use Prim.Native.Nat.{ℕ, ◌*◌}
use mathlib.Core.Path.{ap, ◌∙◌}
use lib.ListN.{length, get_or}
use Rattle.walk.proofs.is_tree.Goals as goal

pub returns-then-n-lt2 : goal.returns-then-n-lt2
returns-then-n-lt2 c = few c.args.n c.args.kids.now c.if-n-lt2.true

pub returns-then-kids-n : goal.returns-then-kids-n
returns-then-kids-n c = other_length c.args.n c.args.kids.now c.if-n-lt2.false c.if-kids-n.true

pub meets_all-requires : goal.meets_all-requires
meets_all-requires c = let a = c.args in let e = c.clear.ensures in (c.if-n-lt2.false, c.requires.0, c.if-kids-n.false, omega (arith, ap length e, cleared_length a.ws.now (a.n * 2), c.requires.1), λ k h. ap (λ (w : List ℕ). get_or w k 0) e ∙ cleared_zero a.ws.now (a.n * 2) k h)
