use borrow.Author.Rules.{rules}
use Rattle.std.proofs.Common.{◌≡◌, sym, refl, subst, replicate, Err, arith, Result, ℕ}
use Rattle.spec.specs.declared.Refusal.{Refusal}
use Rattle.spec.specs.Program.{Printed}
use Rattle.spec.specs.Output.{program_on}
use Rattle.planning.specs.Reading.{read_refused, read_done, found_in, zeros}
use Rattle.planning.specs.Printing.{Tells, tells_refused}
use Rattle.planning.proofs.plan_file.Goals as goal

pub returns-in_err-given : goal.returns-in_err-given
returns-in_err-given c =
    let a = c.args in
    let r = c.in_err-given.field-0.0 in
    let e : c.from_residual.result ≡ Err r = search rules in
    subst (λ (x : Result ℕ Refusal). Tells (program_on a.file.now) a.out.now a.out.now x) (sym e)
    (tells_refused (read_refused a.file.now (replicate 254 0) (replicate 256 0) refl refl (zeros 256) c.in_err-given.ensures.answer))

pub put_found-requires : goal.put_found-requires
put_found-requires c =
    let a = c.args in
    found_in (read_done a.file.now (replicate 254 0) (replicate 256 0) refl refl (zeros 256) (λ i. omega (arith, c.type_inv.file i)) c.in_ok-given.ensures.answer c.in_ok-given.ensures.network c.read_network.ensures.tree c.read_network.ensures.flags)
    c.read_network.auto.tree c.read_network.auto.flags

pub returns : goal.returns
returns c =
    let a = c.args in
    let w = read_done a.file.now (replicate 254 0) (replicate 256 0) refl refl (zeros 256) (λ i. omega (arith, c.type_inv.file i)) c.in_ok-given.ensures.answer c.in_ok-given.ensures.network c.read_network.ensures.tree c.read_network.ensures.flags in
    subst (λ (x : Result Printed Refusal). Tells x a.out.now c.put_found.new.out c.put_found.result) (sym w.rest) c.put_found.ensures
