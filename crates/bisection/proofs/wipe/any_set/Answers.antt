use borrow.Author.Tests.{eqb-true, not-false}
use mathlib.Core.Path.{sym, ◌∙◌}
use Rattle.bisection.specs.Zeros.{union_zero}
use Rattle.bisection.proofs.wipe.any_set.Goals as goal

pub returns : goal.returns
returns c e = union_zero c.args.words.now (sym c.union.ensures ∙ eqb-true c.union.result 0 (not-false _ e))
