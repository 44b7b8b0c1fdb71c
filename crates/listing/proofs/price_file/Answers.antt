use borrow.Author.Rules.{rules}
use Rattle.std.proofs.Common.{◌≡◌, refl, length, replicate, Err, arith}
use Rattle.listing.specs.Reading.{read_refused, read_done}
use Rattle.listing.proofs.price_file.Goals as goal

pub returns-in_err-given : goal.returns-in_err-given
returns-in_err-given c =
    let a = c.args in
    let r = c.in_err-given.field-0.0 in
    let e : c.from_residual.result ≡ Err r = search rules in
    rw e (read_refused a.file.now (replicate 254 0) (replicate 256 0) refl refl c.in_err-given.ensures.answer (length a.out.now) a.out.now)

pub price_given-requires : goal.price_given-requires
price_given-requires c =
    let a = c.args in
    let w = read_done a.file.now (replicate 254 0) (replicate 256 0) refl refl (λ i. omega (arith, c.type_inv.file i)) c.in_ok-given.ensures.answer c.in_ok-given.ensures.network c.read_network.ensures.tree c.read_network.ensures.flags in
    (w.few, omega (arith, w.tree_room, c.read_network.auto.tree), omega (arith, w.flag_room, c.read_network.auto.flags))

pub returns : goal.returns
returns c =
    let a = c.args in
    let w = read_done a.file.now (replicate 254 0) (replicate 256 0) refl refl (λ i. omega (arith, c.type_inv.file i)) c.in_ok-given.ensures.answer c.in_ok-given.ensures.network c.read_network.ensures.tree c.read_network.ensures.flags in
    rw w.rest c.price_given.ensures
