use Rattle.spec.specs.Host.{bytes_of}
use Rattle.listing.specs.Bytes.{mark_next}
use Rattle.listing.proofs.bytes.put_marked_two.Goals as goal

pub returns : goal.returns
returns c =
    let a = c.args in
    mark_next a.out.now (bytes_of 2 a.x) a.at a.mark c.place.ensures c.put_two.ensures
