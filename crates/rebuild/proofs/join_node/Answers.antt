use Rattle.std.specs.Prelude.{Option}
use Rattle.rebuild.specs.Writes.{IsTaken, taken_none, taken_some}
use Prim.Native.Nat.{ℕ}
use mathlib.Core.Path.{subst}
use Rattle.rebuild.proofs.join_node.Goals as goal

pub returns-in-Some-clause-joined : goal.returns-in-Some-clause-joined
returns-in-Some-clause-joined c = let a = c.args in
    taken_some a.kids.now c.put_node.new.kids a.free.now c.take.new.self a.n a.first a.second c.in-Some.v
    (subst (λ (o : Option ℕ). IsTaken a.free.now c.take.new.self o) c.in-Some.is c.take.ensures) c.put_node.ensures

pub returns-in-None-clause-joined : goal.returns-in-None-clause-joined
returns-in-None-clause-joined c = let a = c.args in
    taken_none a.kids.now a.free.now c.take.new.self a.n a.first a.second
    (subst (λ (o : Option ℕ). IsTaken a.free.now c.take.new.self o) c.in-None.is c.take.ensures)
