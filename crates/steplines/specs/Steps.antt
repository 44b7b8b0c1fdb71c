-- A plan's steps as pricing hands them out in lent lists. Definitions only. Assumes nothing.
use Rattle.std.specs.Prelude.{List, map, ℕ, ◌+◌, ◌*◌, get_or}
use Rattle.spec.specs.Lists.{range, keep}
use Rattle.spec.specs.Price.{Step}
use Rattle.slots.specs.Slots.{held}

-- step k: five numbers of the flat list, and of m indices those in its node's slot, of W words
abbrev pub step_from : List ℕ → List ℕ → ℕ → ℕ → ℕ → Step
step_from steps sets W m k =
    record {
      made = get_or steps (k * 5) 0;
      left = get_or steps (k * 5 + 1) 0;
      right = get_or steps (k * 5 + 2) 0;
      work_bits = get_or steps (k * 5 + 3) 0;
      size_bits = get_or steps (k * 5 + 4) 0;
      list = keep (held sets W (get_or steps (k * 5) 0)) (range m);
    }

-- the first n steps
unfoldable pub steps_from : List ℕ → List ℕ → ℕ → ℕ → ℕ → List Step
steps_from steps sets W m n = map (step_from steps sets W m) (range n)
