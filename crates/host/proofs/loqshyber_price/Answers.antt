use lib.ListN.{length}
use Rattle.spec.specs.Host.{Answered, host_call}
use Rattle.listing.specs.Listing.{tells_number}
use Rattle.host.specs.Sound.{hands_out}
use Rattle.host.proofs.loqshyber_price.Goals as goal

pub returns : goal.returns
returns c =
    let a = c.args in
    let e : Answered (host_call (length a.out.now) a.file.now) c.status.result a.out.now c.price_file.new.out
    = tells_number (host_call (length a.out.now) a.file.now) c.price_file.result a.out.now c.price_file.new.out c.price_file.ensures c.status.ensures in
    (e, hands_out (length a.out.now) a.file.now a.out.now e)
