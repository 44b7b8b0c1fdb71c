use Rattle.std.proofs.Common.{take}
use Rattle.std.specs.Io.KnownBytes.{Appends}
use Rattle.stored.specs.Written.{spaced}
use Rattle.stored.proofs.write_numbers.Given as goal

abbrev pub invariant-loop-x : goal.invariant-loop-x
invariant-loop-x g l = Appends (g.W.Write.contents l.fn.out) (g.W.Write.contents l.out) (spaced (take l.x-index l.fn.list))
