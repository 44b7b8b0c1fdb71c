-- Calls check by number. Assumes nothing.
use Rattle.std.specs.Prelude.{refl}
use Rattle.spec.specs.CallClaims.{ChecksByNumber}

pub checks_by_number : ChecksByNumber
checks_by_number N =
    record {
      valid = λ words kids. refl;
      order = λ words places kids. refl;
      same = λ words kids others. refl;
      price = λ words room flags kids. refl;
      greedy = λ words places. refl;
      bisection = λ i words places. refl;
      improve = λ k passes words flags kids. refl;
      slice_improving = λ words flag_places kids. refl;
      slice = λ words flag_places kids. refl;
    }
