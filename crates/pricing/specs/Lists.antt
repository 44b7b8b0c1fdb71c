-- The price list as one value of lent lists. Assumes nothing.
use Rattle.std.specs.Prelude.{◌≡◌, ℕ, ◌*◌, ◌≤◌, length}
use Rattle.pricing.specs.declared.list.PriceList.{PriceList}

-- the same lists are lent, whatever they hold
abbrev pub IsSameLoan : PriceList → PriceList → Type 0
IsSameLoan old new =
    (new.sets.ghost_name ≡ old.sets.ghost_name)
    × (new.sizes.ghost_name ≡ old.sizes.ghost_name)
    × (new.works.ghost_name ≡ old.works.ghost_name)

-- there are places for m nodes, W words a set
pub record HasRoom (W m : ℕ) (p : PriceList) : Type 0 where
  pub for_sets : m * W ≤ length p.sets.now
  pub for_sizes : m ≤ length p.sizes.now
  pub for_works : m ≤ length p.works.now
