-- What a visit asks of the words and of the price list that is lent. Definitions only. Assumes nothing.
use Rattle.std.specs.Prelude.{false, ◌≡◌, ℕ, length}
use Rattle.spec.specs.Calls.{dangling}
use Rattle.network.specs.Views.{net_in}
use Rattle.pricing.specs.declared.list.PriceList.{PriceList}
use Rattle.reprice.specs.Held.{Room}
use Rattle.reconf.specs.declared.search.Task.{Task}

-- no index is dangling, and the words and lists are long enough
abbrev pub IsReady : Task → ℕ → PriceList → Type 0
IsReady t words p = (dangling (net_in t.network) ≡ false) × Room t.search.k words (length p.sets.now) (length p.sizes.now) (length p.works.now)
