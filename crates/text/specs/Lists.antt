-- What is printed of a plan that pricing handed out in lent lists. Definitions only. Assumes nothing.
use Rattle.std.specs.Prelude.{List, ℕ, ◌-◌}
use Rattle.spec.specs.Lists.{range, keep}
use Rattle.spec.specs.Calls.{flag_at}
use Rattle.spec.specs.Program.{Printed}
use Rattle.spec.specs.declared.Prices.{Prices}
use Rattle.steplines.specs.Steps.{steps_from}

-- n leaves, m indices, W words a set
abbrev pub printed_from : (n m W : ℕ) → Prices → (steps sets flags : List ℕ) → (improved splits : ℕ) → Printed
printed_from n m W prices steps sets flags improved splits =
    record {
      leaves = n;
      indices = m;
      steps = steps_from steps sets W m (n - 1);
      total = prices.total;
      widest = prices.widest;
      slices = keep (flag_at flags) (range m);
      bits = prices.slice_bits;
      improved = improved;
      splits = splits;
    }
