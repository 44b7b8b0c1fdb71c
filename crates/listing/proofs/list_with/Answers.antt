use borrow.Author.Rules.{rules}
use Rattle.std.proofs.Common.{◌≡◌, refl, Err}
use Rattle.listing.specs.Listing.{tells_short, tells_priced_not, tells_priced}
use Rattle.listing.proofs.list_with.Goals as goal

pub returns-then-out-n : goal.returns-then-out-n
returns-then-out-n c =
    let a = c.args in
    tells_short a.network.now a.flags.now a.kids.now a.out.now c.saturating_sub-n.ensures c.if-out-n.true

pub returns-in_err-prices : goal.returns-in_err-prices
returns-in_err-prices c =
    let a = c.args in
    let r = c.in_err-prices.field-0.0 in
    let e : c.from_residual.result ≡ Err r = search rules in
    rw e (tells_priced_not a.network.now a.flags.now a.kids.now a.out.now c.requires.room c.in_err-prices.ensures.cost c.saturating_sub-n.ensures c.if-out-n.false refl)

pub returns : goal.returns
returns c =
    let a = c.args in
    tells_priced a.network.now a.flags.now a.kids.now a.out.now c.requires.room c.in_ok-prices.ensures.cost c.saturating_sub-n.ensures c.if-out-n.false c.requires.leaves refl c.put_listing.ensures
