-- What the writer is handed. Definitions only. Assumes nothing.
use Rattle.std.specs.Prelude.{List, ℕ, take}
use Rattle.spec.specs.File.{Ask, plain, flagged, target}
use Rattle.netfile.specs.declared.Ask.{Ask as Asked}
use Rattle.netfile.specs.declared.Ask.TheVariants.{Plain, Flagged, Target}

-- what is asked: so many flags, or all where there are fewer; or the target
abbrev pub ask_handed : Asked → List ℕ → Ask
ask_handed Plain l = plain
ask_handed (Flagged k) l = flagged (take k l)
ask_handed (Target w) l = target w
